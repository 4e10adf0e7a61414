-- What a service knows grows by one call more.
use Rattle.std.proofs.Common.{ℕ, List, [], ◌∷◌, ◌++◌, length, true, ◌≡◌, Result, IfOk, OnErr, refl, subst, inl, inr}
use Rattle.std.proofs.Math.Logic.{∥∥₁_map}
use Rattle.byte_io.specs.Bytes.{Intake}
use Rattle.byte_io.specs.declared.put.WriteFault.{WriteFault}
use Rattle.chunk_plain.specs.Setup.{Setup}
use Rattle.chunk_plain.specs.Views.{ServiceView}
use Rattle.chunk_words.specs.declared.seats.ServiceSeat.{ServiceSeat}
use Rattle.scenario_text.specs.declared.scenario.NumberedLine.{NumberedLine}
use Rattle.service_core.specs.declared.service.ServiceCore.{ServiceCore}
use Rattle.service_core.specs.Reading.{ReadsAll, FailsAmong, read_moment}
use Rattle.service_core.specs.Scraping.{TakesAndScrapes}
use Rattle.service_core.specs.Taking.{Takes, places_of}
use Rattle.run_model.specs.Collected.{may_be_collected}
use Rattle.run_model.specs.Scraped.{is_scraped_by}
use Rattle.thread_service.proofs.PassLemmas.{some_noted}
use Rattle.thread_host.specs.Growing.{Grows, GrowsBy, GrowsOnce, IsHearing, IsRequesting}

once_more : (setup : Setup) (lines : List NumberedLine) (views : List ServiceView) (old mid new : ServiceView) → GrowsBy setup lines views old mid
    → GrowsOnce setup lines mid new → GrowsBy setup lines (views ++ new ∷ []) old new
once_more setup lines [] old mid new same once = (subst (λ (v : ServiceView). GrowsOnce setup lines v new) same once, refl)
once_more setup lines (view ∷ views) old mid new before once = (before.0, once_more setup lines views view mid new before.1 once)

grows_more : (setup : Setup) (lines : List NumberedLine) (old mid new : ServiceView) → GrowsOnce setup lines mid new → Grows setup lines old mid
    → Grows setup lines old new
grows_more setup lines old mid new once before = ∥∥₁_map before (λ grown. (grown.0 ++ new ∷ [], once_more setup lines grown.0 old mid new grown.1 once))

-- nothing was done yet
pub grows_none : (setup : Setup) (lines : List NumberedLine) (view : ServiceView) → Grows setup lines view view
grows_none setup lines view = ∣ ([], refl) ∣₁

pub collect_grows : (setup : Setup) (lines : List NumberedLine) (producer taken : ℕ) (old mid new : ServiceView)
    → may_be_collected setup lines producer ≡ true → Takes setup (places_of producer 0 setup.writers) taken mid new → Grows setup lines old mid
    → Grows setup lines old new
collect_grows setup lines producer taken old mid new asked takes = grows_more setup lines old mid new (inl (producer, taken, asked, takes))

pub scrape_grows : (setup : Setup) (lines : List NumberedLine) (producer taken : ℕ) (old mid new : ServiceView) → is_scraped_by lines producer ≡ true
    → TakesAndScrapes setup producer taken mid new → Grows setup lines old mid → Grows setup lines old new
scrape_grows setup lines producer taken old mid new asked scrapes = grows_more setup lines old mid new (inr (inl (producer, taken, asked, scrapes)))

pub read_grows : (named setup : Setup) (lines : List NumberedLine) (core : ServiceCore ServiceSeat) (number limit : ℕ) (old mid new : ServiceView)
    (before after : Intake) (result : Result ℕ WriteFault)
    → IfOk result (λ delivered. ReadsAll setup core number limit delivered (read_moment mid before) (read_moment new after)) → OnErr result (FailsAmong setup core number limit (read_moment mid before) (read_moment new after))
    → Grows named lines old mid → Grows named lines old new
read_grows named setup lines core number limit old mid new before after result reads fails =
    let some = some_noted setup core number limit (read_moment mid before) (read_moment new after) result reads fails in
    grows_more named lines old mid new (inr (inr (inl (some.0, some.1.view))))

-- answers were read
pub hear_grows : (setup : Setup) (lines : List NumberedLine) (old mid new : ServiceView) → IsHearing (length setup.writers) mid new → Grows setup lines old mid
    → Grows setup lines old new
hear_grows setup lines old mid new hears = grows_more setup lines old mid new (inr (inr (inr (inl hears))))

-- a flush request was made
pub request_grows : (setup : Setup) (lines : List NumberedLine) (old mid new : ServiceView) → IsRequesting mid new → Grows setup lines old mid → Grows setup lines old new
request_grows setup lines old mid new asks = grows_more setup lines old mid new (inr (inr (inr (inr asks))))
