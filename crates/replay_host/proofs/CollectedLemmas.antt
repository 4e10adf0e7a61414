-- Acts of the service one behind another: the taking of the open producers' chunks.
use Rattle.std.proofs.Common.{◌≡◌, ◌∙◌, ℕ, suc, ◌+◌, ◌-◌, ◌<◌, ◌≤◌, Bool, true, false, not, List, [], ◌∷◌, ◌++◌, length, map, drop, get_or, refl, sym, ap, subst, arith}
use Rattle.std.specs.Prelude.{slice_get, slice_index_or}
use Rattle.std.proofs.lemmas.List.{get_or_read}
use Rattle.scenario_text.specs.declared.scenario.NumberedLine.{NumberedLine}
use Rattle.scenario_text.specs.Scenario.{Parts}
use Rattle.scenario_text.specs.Accepted.{is_closed_by}
use Rattle.chunk_plain.specs.Meaning.{Meaning}
use Rattle.chunk_plain.specs.Setup.{HasProducer}
use Rattle.replay_model.specs.Acts.{Act, Collect}
use Rattle.replay_model.specs.ActNotes.{ActNote}
use Rattle.replay_model.specs.Schedule.{open_producers}
use Rattle.replay_host.specs.declared.host.Host.{Host}
use Rattle.replay_host.specs.Lines.{IsKept}
use Rattle.replay_host.specs.Playing.{IsHost, LeavesWriters}
use Rattle.replay_host.specs.Serving.{HasServed, HaveCollectedTo}
use Rattle.replay_host.proofs.GoingLemmas.{done_none, done_both}
use Rattle.replay_host.proofs.MomentLemmas.{ranges_many}
use Rattle.replay_host.proofs.OpenLemmas.{producers_open, producers_closed, producers_none, rest_more, rest_same, rest_none}

-- ---- acts that were served

pub leaves_none : {T W S : Type 0} (means : Meaning T W S) (host : Host T W S) → LeavesWriters means host host
leaves_none means host = record { writers = refl; flushes = refl; specs = refl; views = λ place core at. refl }

pub leaves_both : {T W S : Type 0} (means : Meaning T W S) (old mid new : Host T W S) → LeavesWriters means old mid
    → LeavesWriters means mid new
    → LeavesWriters means old new
leaves_both means old mid new one two = record {
  writers = two.writers ∙ one.writers;
  flushes = two.flushes ∙ one.flushes;
  specs = two.specs ∙ one.specs;
  views = λ place core at. two.views place core (ap (λ (v : _). slice_get v.items place) one.writers ∙ at) ∙ one.views place core at;
}

pub served_none : {T W S : Type 0} (means : Meaning T W S) (host : Host T W S) → IsHost means host → HasServed means [] host host
served_none means host is = record {
  host = is;
  writers = leaves_none means host;
  opened = refl;
  session = refl;
  done = λ taken. done_none means host taken;
}

pub served_both : {T W S : Type 0} (means : Meaning T W S) (acts others : List Act) (old mid new : Host T W S)
    → HasServed means acts old mid
    → HasServed means others mid new → HasServed means (acts ++ others) old new
served_both means acts others old mid new one two = record {
  host = two.host;
  writers = leaves_both means old mid new one.writers two.writers;
  opened = two.opened ∙ one.opened;
  session = two.session ∙ one.session;
  done = λ taken. done_both means acts others [] [] old mid new taken taken taken (one.done taken) (two.done taken);
}

-- ---- producers

-- there is a flag for each producer of the scenario
pub flags_many : {T W S : Type 0} (means : Meaning T W S) (scenario : Parts) (before : List NumberedLine) (notes : List ActNote)
    (host : Host T W S)
    → IsKept means scenario before notes host → length host.open_producers.items ≡ length scenario.producers
flags_many means scenario before notes host kept = kept.is_host.producers ∙ ranges_many scenario (means.setup host.table) kept.laid

-- a producer whose flag is there has chunks in the table
pub flag_producer : {T W S : Type 0} (means : Meaning T W S) (host : Host T W S) (index : ℕ) → IsHost means host
    → index < length host.open_producers.items
    → HasProducer (means.setup host.table) (index + 1)
flag_producer means host index is inside = record {
  least = omega arith;
  most = (let many = is.producers in omega (arith, inside, many));
}

-- a flag as it is read says whether a line has closed the producer
pub flag_says : {T W S : Type 0} (means : Meaning T W S) (scenario : Parts) (before : List NumberedLine) (notes : List ActNote)
    (old mid : Host T W S)
    (index : ℕ) (said : Bool) → IsKept means scenario before notes old → mid.open_producers ≡ old.open_producers
    → index < length scenario.producers
    → said ≡ get_or mid.open_producers.items index said → not (is_closed_by before (suc index)) ≡ said
flag_says means scenario before notes old mid index said kept opened inside read =
    let many = flags_many means scenario before notes old kept in
    let here : suc index - 1 ≡ index = omega arith in
    let same : said ≡ get_or old.open_producers.items index said = read ∙ ap (λ (v : _). get_or v.items index said) opened in
    sym (kept.flags (suc index) (omega arith) (omega (arith, inside)))
    ∙ ap (λ (n : ℕ). slice_index_or old.open_producers.items n false) here
    ∙ sym (get_or_read old.open_producers.items index said (omega (arith, many, inside)) same false)

module _ {T W S : Type 0} (means : Meaning T W S) (scenario : Parts) (before : List NumberedLine) where
  -- nothing was taken yet
  pub collected_none : (host : Host T W S) → IsHost means host → HaveCollectedTo means scenario before 0 host host
  collected_none host is = record { acts = []; rest = refl; served = served_none means host is }

  -- one producer's chunks more
  pub collected_more : (index producer : ℕ) (old mid new : Host T W S) → producer ≡ suc index
      → HaveCollectedTo means scenario before index old mid
      → index < length scenario.producers → not (is_closed_by before (suc index)) ≡ true → HasServed means (Collect producer ∷ []) mid new
      → HaveCollectedTo means scenario before (suc index) old new
  collected_more index producer old mid new number to below opened step = record {
    acts = to.acts ++ Collect (suc index) ∷ [];
    rest = rest_more (map Collect (open_producers before 1 scenario.producers)) to.acts
        (map Collect (open_producers before (suc index) (drop index scenario.producers)))
        (map Collect (open_producers before (suc (suc index)) (drop (suc index) scenario.producers))) (Collect (suc index)) to.rest
        (producers_open Collect before scenario.producers index below opened);
    served = served_both means to.acts (Collect (suc index) ∷ []) old mid new to.served
        (subst (λ (n : ℕ). HasServed means (Collect n ∷ []) mid new) number step);
  }

  -- a closed producer is passed over
  pub collected_closed : (index : ℕ) (old mid : Host T W S) → HaveCollectedTo means scenario before index old mid
      → index < length scenario.producers
      → not (is_closed_by before (suc index)) ≡ false → HaveCollectedTo means scenario before (suc index) old mid
  collected_closed index old mid to below closed = record {
    acts = to.acts;
    rest = rest_same (map Collect (open_producers before 1 scenario.producers)) to.acts
        (map Collect (open_producers before (suc index) (drop index scenario.producers)))
        (map Collect (open_producers before (suc (suc index)) (drop (suc index) scenario.producers))) to.rest
        (producers_closed Collect before scenario.producers index below closed);
    served = to.served;
  }

  -- all were taken
  pub collected_all : (end : ℕ) (old new : Host T W S) → HaveCollectedTo means scenario before end old new → length scenario.producers ≤ end
      → HasServed means (map Collect (open_producers before 1 scenario.producers)) old new
  collected_all end old new to most =
      subst (λ (acts : List Act). HasServed means acts old new)
      (rest_none (map Collect (open_producers before 1 scenario.producers)) to.acts
      (map Collect (open_producers before (suc end) (drop end scenario.producers))) to.rest
      (producers_none Collect before scenario.producers end most)) to.served
