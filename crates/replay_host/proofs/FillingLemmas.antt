-- The clones of a scenario's lines, filled one behind another.
use Rattle.std.proofs.Common.{◌≡◌, ◌∙◌, ℕ, zero, suc, ◌-◌, ◌*◌, ◌<◌, ◌≤◌, List, [], ◌∷◌, ◌++◌, length, map, take, drop, get_or, set, refl, sym, ap, subst, arith}
use Rattle.std.proofs.lemmas.List.{length-map}
use Rattle.trace_base.specs.declared.limits.TheConstants.{BYTES_PER_KB}
use Rattle.scenario_text.specs.declared.scenario.BufferLine.{BufferLine}
use Rattle.byte_io.specs.Bytes.{Intake}
use Rattle.trace_model.specs.Buffers.{Buffer}
use Rattle.scenario_text.specs.declared.scenario.LineKind.{LineKind}
use Rattle.scenario_text.specs.declared.scenario.LineKind.TheVariants as line
use Rattle.scenario_text.specs.declared.scenario.NumberedLine.{NumberedLine}
use Rattle.scenario_text.specs.Clones.{clones_by, clones_in}
use Rattle.scenario_text.specs.Reach.{IsInReach, NamesBuffer}
use Rattle.scenario_text.specs.Scenario.{Parts}
use Rattle.chunk_plain.specs.Meaning.{Meaning}
use Rattle.chunk_plain.specs.Setup.{Setup}
use Rattle.service_core.specs.Agreement.{first_of}
use Rattle.service_core.specs.Routing.{buffer_at}
use Rattle.replay_model.specs.Played.{buffers_of}
use Rattle.replay_host.specs.declared.host.Host.{Host}
use Rattle.replay_host.specs.Cloning.{FitsClone, HaveCloned, clone_now}
use Rattle.replay_host.specs.Lines.{IsLinePlayed}
use Rattle.replay_host.specs.Playing.{IsHost}
use Rattle.replay_host.specs.Whole.{Begins, HavePlayedTo}
use Rattle.replay_host.proofs.CloningLemmas.{cloned_next, fits_clone}
use Rattle.replay_host.proofs.CountingLemmas.{specs_many}
use Rattle.replay_host.proofs.PlayingLemmas.{moment_at, comes_at}
use Rattle.replay_host.proofs.RowLemmas.{AreLaws}
use Rattle.world_model.specs.FirstBuffers.{BufferSpec}
use Rattle.world_model.proofs.MakingLemmas.{first_long}
use Rattle.replay_model.specs.Played.{buffer_specs}

-- ---- lists

-- where a list from a place on begins so, that is what stands there
pub there_first : {A : Type 0} (xs rest : List A) (i : ℕ) (x : A) → drop i xs ≡ x ∷ rest
    → (i < length xs) × ((any : A) → get_or xs i any ≡ x) × (drop (suc i) xs ≡ rest)
there_first [] rest zero x left = absurd (cc)
there_first [] rest (suc i) x left = absurd (cc)
there_first {A} (y ∷ ys) rest zero x left = (omega arith, λ any. heads y x ys rest left, tails y x ys rest left)
  where
    heads : (a b : A) (more others : List A) → a ∷ more ≡ b ∷ others → a ≡ b
    heads a b more others same = cc

    tails : (a b : A) (more others : List A) → a ∷ more ≡ b ∷ others → more ≡ others
    tails a b more others same = cc
there_first (y ∷ ys) rest (suc i) x left =
    let h = there_first ys rest i x left in
    let low = h.0 in
    (omega (arith, low), h.1, h.2)

-- a list with another thing at a place
pub take_set : {A : Type 0} (xs : List A) (i : ℕ) (x : A) → i < length xs → take (suc i) (set xs i x) ≡ take i xs ++ x ∷ []
take_set [] i x inside = absurd (omega (arith, inside))
take_set (y ∷ ys) zero x inside = refl
take_set {A} (y ∷ ys) (suc i) x inside = ap (λ (zs : List A). y ∷ zs) (take_set ys i x (omega (arith, inside)))

pub drop_set : {A : Type 0} (xs : List A) (i : ℕ) (x : A) → drop (suc i) (set xs i x) ≡ drop (suc i) xs
drop_set [] zero x = refl
drop_set [] (suc i) x = refl
drop_set (y ∷ ys) zero x = refl
drop_set (y ∷ ys) (suc i) x = drop_set ys i x

-- the lines before a place, and the line there
took_more : (lines : List NumberedLine) (n : ℕ) (next : NumberedLine) → n < length lines → get_or lines n next ≡ next
    → take (suc n) lines ≡ take n lines ++ next ∷ []
took_more [] n next low there = absurd (omega (arith, low))
took_more (l ∷ ls) zero next low there = ap (λ (m : NumberedLine). m ∷ []) there
took_more (l ∷ ls) (suc n) next low there = ap (λ (ms : List NumberedLine). l ∷ ms) (took_more ls n next (omega (arith, low)) there)

-- ---- one line

-- another line asks for no clone
pub no_clone : (kind : LineKind) → ((buffer : ℕ) → kind ≡ line.CloneBuffer buffer → ⊥) → clones_by kind ≡ []
no_clone (line.Packet writer fields) not = refl
no_clone (line.Begin writer) not = refl
no_clone (line.Add writer fields) not = refl
no_clone (line.Nest writer field) not = refl
no_clone (line.Unnest writer) not = refl
no_clone (line.End writer) not = refl
no_clone (line.Flush writer) not = refl
no_clone (line.Collect producer) not = refl
no_clone (line.Scrape producer) not = refl
no_clone (line.Close producer) not = refl
no_clone (line.Read buffer limit) not = refl
no_clone line.Request not = refl
no_clone (line.Raw writer chunk) not = refl
no_clone (line.CloneBuffer buffer) not = absurd (not buffer refl)

-- the clones of the lines from a place on are those of the line there and of the later ones
pub coming_next : (lines rest : List NumberedLine) (i : ℕ) (one : NumberedLine) → drop i lines ≡ one ∷ rest
    → clones_in (drop i lines) ≡ clones_by one.what ++ clones_in (drop (suc i) lines)
coming_next lines rest i one left =
    ap clones_in left ∙ ap (λ (ls : List NumberedLine). clones_by one.what ++ clones_in ls) (sym (there_first lines rest i one left).2)

-- ---- the line at a place, once it is played

module _ {T W S : Type 0} (means : Meaning T W S) (scenario : Parts) (old : Host T W S) (taken : Intake) (begins : Begins means scenario old)
    (i : ℕ) (one : NumberedLine) (below : i < length scenario.lines) (is : get_or scenario.lines i one ≡ one) (mid : Host T W S) (between : Intake)
    (so : HavePlayedTo means scenario i old taken mid between) (new : Host T W S) (left : Intake)
    (played : IsLinePlayed means (moment_at means scenario old taken begins i one below is mid between so) mid between new left) where
  pub new_host : IsHost means new
  new_host = played.at.going.kept.is_host

  first_new : first_of (means.setup new.table) new.helper.service ≡ buffers_of scenario (means.setup new.table)
  first_new = played.at.going.kept.first

  module _ (buffer : ℕ) (what : one.what ≡ line.CloneBuffer buffer) where
    pub names : NamesBuffer scenario.buffers buffer
    names = subst (λ (kind : LineKind). IsInReach scenario.buffers scenario.producers scenario.writers (take i scenario.lines) kind) what
        (comes_at means scenario old taken begins i one below is mid between so).reach

    pub few : buffer ≤ length new.helper.service.specs.items
    few =
        let most = names.most in
        let many = specs_many scenario (means.setup new.table) new.helper.service first_new in
        omega (arith, most, many)

    -- the first buffers are those of the host as it was
    firsts : first_of (means.setup new.table) new.helper.service ≡ first_of (means.setup old.table) old.helper.service
    firsts =
        ap (λ (s : Setup). first_of s new.helper.service) (played.done.setup_is ∙ so.done.setup_is)
        ∙ ap (λ (s : Setup). first_of s new.helper.service) (sym so.done.setup_is) ∙ played.done.first
        ∙ ap (λ (s : Setup). first_of s mid.helper.service) so.done.setup_is ∙ so.done.first

    there : buffer - 1 < length (first_of (means.setup new.table) new.helper.service)
    there =
        let least = names.least in
        let most = names.most in
        let long = ap (λ (bs : List Buffer). length bs) first_new in
        let specs = first_long (means.setup new.table) 1 (buffer_specs scenario) in
        let lines = length-map {B = BufferSpec} scenario.buffers (λ (one : BufferLine). record { size = one.kb * BYTES_PER_KB; policy = one.policy }) in
        omega (arith, least, most, long, specs, lines)

    pub fits : (clone : Buffer) → clone ≡ buffer_at (first_of (means.setup old.table) old.helper.service) (buffer - 1) → FitsClone new buffer clone
    fits clone made =
        fits_clone means new buffer clone new_host there (made ∙ ap (λ (bs : List Buffer). buffer_at bs (buffer - 1)) (sym firsts))

  -- the clones behind it
  pub with_clones : (laws : AreLaws means) (clones : List Buffer) → HaveCloned means scenario [] (take i scenario.lines) old mid clones
      → HaveCloned means scenario [] (take (suc i) scenario.lines) old new (clones ++ map (clone_now means new) (clones_by one.what))
  with_clones laws clones cloned =
      subst (λ (ls : List NumberedLine). HaveCloned means scenario [] ls old new (clones ++ map (clone_now means new) (clones_by one.what)))
      (sym (took_more scenario.lines i one below is))
      (cloned_next means laws scenario old (take i scenario.lines) one clones mid new between left played.later cloned so.done.setup_is
      so.at.going.kept.first new_host played.done)
