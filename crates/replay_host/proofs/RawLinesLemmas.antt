-- Lines that commit chunks: their numbers with their answers, the marks of the writers that they name, and the sizes of their payloads.
use Rattle.std.proofs.Common.{◌≡◌, ◌∙◌, ℕ, zero, suc, ◌+◌, ◌-◌, ◌<◌, ◌≤◌, ◌||◌, Bool, true, false, cond, List, [], ◌∷◌, ◌++◌, length, map, replicate, take, get_or, set, refl, sym, ap, subst, arith, inl, inr, append_assoc, length-set}
use Rattle.std.specs.List.{filter}
use Rattle.std.proofs.Math.Bool.{or-false, or-true}
use Rattle.std.proofs.Math.Seq.{take-append-add}
use Rattle.std.proofs.lemmas.Bool.{cases_eq, eq-eqb, ne_eqb}
use Rattle.std.proofs.lemmas.List.{get_or-set_same, get_or-set_other, take_more, take-replicate}
use Rattle.std.proofs.lemmas.List.Folds.{list_any-append}
use Rattle.page_geometry.specs.Sizes.{payload_size}
use Rattle.loss_report.specs.declared.raws.RawAnswer.{RawAnswer}
use Rattle.loss_report.specs.declared.raws.RawLine.{RawLine}
use Rattle.scenario_text.specs.declared.scenario.LineKind.{LineKind}
use Rattle.scenario_text.specs.declared.scenario.LineKind.TheVariants as line
use Rattle.scenario_text.specs.declared.scenario.NumberedLine.{NumberedLine}
use Rattle.scenario_text.specs.declared.scenario.Scenario.{Scenario}
use Rattle.scenario_text.specs.RawChunks.{AskedChunk}
use Rattle.scenario_text.specs.Raws.{has_raw, is_raw, is_raw_of, raw_numbers}
use Rattle.scenario_text.specs.Reach.{IsInReach, CommitsChunk}
use Rattle.scenario_text.specs.Scenario.{IsScenario}
use Rattle.scenario_text.proofs.ReachLemmas.{scenario_is_in_reach}
use Rattle.chunk_plain.specs.declared.setup.ProducerSpec.{ProducerSpec}
use Rattle.chunk_plain.specs.Laying.{sizes_of}
use Rattle.replay_model.specs.Raws.{raw_lines}
use Rattle.replay_model.proofs.RawLemmas.{no_raw_of}
use Rattle.replay_host.specs.Raws.{AreMarked, raws_in}

-- ---- one line

-- a line that doesn't commit a chunk
pub not_raw : (kind : LineKind) → ((writer : ℕ) (chunk : AskedChunk) → kind ≡ line.Raw writer chunk → ⊥) → is_raw kind ≡ false
unfolding is_raw
not_raw (line.Packet writer fields) not = refl
not_raw (line.Begin writer) not = refl
not_raw (line.Add writer fields) not = refl
not_raw (line.Nest writer field) not = refl
not_raw (line.Unnest writer) not = refl
not_raw (line.End writer) not = refl
not_raw (line.Flush writer) not = refl
not_raw (line.Collect producer) not = refl
not_raw (line.Scrape producer) not = refl
not_raw (line.Close producer) not = refl
not_raw (line.Read buffer limit) not = refl
not_raw line.Request not = refl
not_raw (line.CloneBuffer buffer) not = refl
not_raw (line.Raw writer chunk) not = absurd (not writer chunk refl)

pub not_raw_of : (number : ℕ) (kind : LineKind) → ((writer : ℕ) (chunk : AskedChunk) → kind ≡ line.Raw writer chunk → ⊥)
    → is_raw_of number kind ≡ false
not_raw_of number kind not = no_raw_of number kind (not_raw kind not)

-- ---- their numbers

-- a line that commits a chunk has its number before the others
pub numbers_raw : (one : NumberedLine) (lines : List NumberedLine) (writer : ℕ) (chunk : AskedChunk) → one.what ≡ line.Raw writer chunk
    → raw_numbers (one ∷ lines) ≡ one.line ∷ raw_numbers lines
unfolding is_raw
numbers_raw one lines writer chunk is =
    ap (λ (kind : LineKind). map (λ (l : NumberedLine). l.line)
    (cond (is_raw kind) (one ∷ filter (λ (l : NumberedLine). is_raw l.what) lines) (filter (λ (l : NumberedLine). is_raw l.what) lines))) is

-- and another one has none
pub numbers_other : (one : NumberedLine) (lines : List NumberedLine) → is_raw one.what ≡ false
    → raw_numbers (one ∷ lines) ≡ raw_numbers lines
numbers_other one lines none =
    ap (λ (b : Bool). map (λ (l : NumberedLine). l.line) (cond b (one ∷ filter (λ (l : NumberedLine). is_raw l.what) lines)
    (filter (λ (l : NumberedLine). is_raw l.what) lines))) none

-- behind any line no more of them are to come
pub raws_fall : (one : NumberedLine) (lines : List NumberedLine) → raws_in lines ≤ raws_in (one ∷ lines)
raws_fall one lines = by_kind (is_raw one.what)
  where
    by_kind : (b : Bool) → raws_in lines
        ≤ length (map (λ (l : NumberedLine). l.line)
        (cond b (one ∷ filter (λ (l : NumberedLine). is_raw l.what) lines) (filter (λ (l : NumberedLine). is_raw l.what) lines)))
    by_kind true = omega arith
    by_kind false = omega arith

-- no lines without answers
pub no_answers : (numbers : List ℕ) → raw_lines numbers [] ≡ []
no_answers [] = refl
no_answers (number ∷ numbers) = refl

-- one more of them has its answer
pub filled_more : (raws now : List RawLine) (numbers more : List ℕ) (number : ℕ) (answer : RawAnswer) (answers : List RawAnswer)
    (all : List RawLine) → raws ++ raw_lines numbers (answer ∷ answers) ≡ all → numbers ≡ number ∷ more
    → now ≡ raws ++ record { line = number; answer = answer } ∷ []
    → now ++ raw_lines more answers ≡ all
filled_more raws now numbers more number answer answers all filled next pushed =
    ap (λ (rs : List RawLine). rs ++ raw_lines more answers) pushed
    ∙ append_assoc raws (record { line = number; answer = answer } ∷ []) (raw_lines more answers)
    ∙ ap (λ (ns : List ℕ). raws ++ raw_lines ns (answer ∷ answers)) (sym next) ∙ filled

-- ---- marks

-- the lines before these name a writer or this one does
has_more : (number : ℕ) (before : List NumberedLine) (one : NumberedLine)
    → has_raw number (before ++ one ∷ []) ≡ (has_raw number before || is_raw_of number one.what)
has_more number before one =
    list_any-append (λ (l : NumberedLine). is_raw_of number l.what) before (one ∷ [])
    ∙ ap (λ (b : Bool). has_raw number before || b) (or-false (is_raw_of number one.what))

-- a line that commits a chunk marks its writer
pub marked_raw : (before : List NumberedLine) (one : NumberedLine) (writer : ℕ) (chunk : AskedChunk) (writers : ℕ) (marks : List Bool)
    → one.what ≡ line.Raw writer chunk → 1 ≤ writer → writer - 1 < writers → AreMarked before writers marks
    → AreMarked (before ++ one ∷ []) writers (set marks (writer - 1) true)
unfolding is_raw_of
marked_raw before one writer chunk writers marks is least most marked = record {
  many = length-set marks (writer - 1) true ∙ marked.many;
  each = λ place below.
      let many = marked.many in
      elim (cases_eq place (writer - 1)) [
        | inl same ↦
            (let here : suc place ≡ writer = omega (arith, same, least) in
            let inside : writer - 1 < length marks = omega (arith, many, most) in
            ap (λ (p : ℕ). get_or (set marks (writer - 1) true) p false) same ∙ get_or-set_same marks (writer - 1) true false inside
            ∙ sym (has_more (suc place) before one
            ∙ ap (λ (kind : LineKind). has_raw (suc place) before || is_raw_of (suc place) kind) is
            ∙ ap (λ (b : Bool). has_raw (suc place) before || b) (eq-eqb (suc place) writer here)
            ∙ or-true (has_raw (suc place) before)))
        | inr apart ↦
            (let other : suc place ≡ writer → ⊥ = λ here. apart (let same : place ≡ writer - 1 = omega (arith, here) in same) in
            get_or-set_other marks (writer - 1) place true false apart ∙ marked.each place below
            ∙ sym (has_more (suc place) before one
            ∙ ap (λ (kind : LineKind). has_raw (suc place) before || is_raw_of (suc place) kind) is
            ∙ ap (λ (b : Bool). has_raw (suc place) before || b) (ne_eqb (suc place) writer other)
            ∙ or-false (has_raw (suc place) before)))
      ];
}

-- another line marks none
pub marked_other : (before : List NumberedLine) (one : NumberedLine) (writers : ℕ) (marks : List Bool)
    → ((writer : ℕ) (chunk : AskedChunk) → one.what ≡ line.Raw writer chunk → ⊥) → AreMarked before writers marks
    → AreMarked (before ++ one ∷ []) writers marks
marked_other before one writers marks not marked = record {
  many = marked.many;
  each = λ place below.
      marked.each place below
      ∙ sym (has_more (suc place) before one ∙ ap (λ (b : Bool). has_raw (suc place) before || b) (not_raw_of (suc place) one.what not)
      ∙ or-false (has_raw (suc place) before));
}

-- what a line that commits a chunk names is there
pub commits_there : (scenario : Scenario) → IsScenario scenario → (before later rest : List NumberedLine) (one : NumberedLine)
    (writer : ℕ) (chunk : AskedChunk) → scenario.lines ≡ before ++ later → later ≡ one ∷ rest → one.what ≡ line.Raw writer chunk
    → CommitsChunk scenario.buffers.items scenario.producers.items scenario.writers.items before writer chunk
commits_there scenario is before later rest one writer chunk split next what =
    subst (λ (kind : LineKind). IsInReach scenario.buffers.items scenario.producers.items scenario.writers.items before kind) what
    (scenario_is_in_reach scenario is before one rest (split ∙ ap (λ (ls : List NumberedLine). before ++ ls) next))

-- ---- sizes

-- one size more, and the largest so far
pub most_more : (sizes : List ℕ) (size most next : ℕ) → ((k : ℕ) → get_or sizes k 0 ≤ most) → most ≤ next → size ≤ next
    → (k : ℕ) → get_or (sizes ++ size ∷ []) k 0 ≤ next
most_more [] size most next each larger last zero = last
most_more [] size most next each larger last (suc k) = none k
  where
    none : (k : ℕ) → get_or {A = ℕ} [] k 0 ≤ next
    none zero = omega arith
    none (suc k) = omega arith
most_more (one ∷ sizes) size most next each larger last zero = let h = each 0 in omega (arith, h, larger)
most_more (one ∷ sizes) size most next each larger last (suc k) = most_more sizes size most next (λ j. each (suc j)) larger last k

-- the sizes of one producer more
pub sizes_more : (producers : List ProducerSpec) (i : ℕ) (d : ProducerSpec) (sizes now : List ℕ) (size : ℕ) → i < length producers
    → sizes ≡ sizes_of (take i producers) → now ≡ sizes ++ size ∷ []
    → size ≡ payload_size (get_or producers i d).geometry.page_size (get_or producers i d).geometry.chunks
    → now ≡ sizes_of (take (i + 1) producers)
sizes_more producers i d sizes now size below are pushed is =
    pushed ∙ ap (λ (xs : List ℕ). xs ++ size ∷ []) are ∙ ap (λ (n : ℕ). sizes_of (take i producers) ++ n ∷ []) is
    ∙ sym (ap (λ (ps : List ProducerSpec). sizes_of ps) (take_more producers i d below)
    ∙ both (take i producers) (get_or producers i d ∷ []))
  where
    both : (xs ys : List ProducerSpec) → sizes_of (xs ++ ys) ≡ sizes_of xs ++ sizes_of ys
    both [] ys = refl
    both (x ∷ xs) ys = ap (λ (ns : List ℕ). payload_size x.geometry.page_size x.geometry.chunks ∷ ns) (both xs ys)

-- the front of a payload with zeros behind it
pub front_padded : (xs : List ℕ) (size most : ℕ) → length xs ≤ size → size ≤ most
    → take size (xs ++ replicate (most - length xs) 0) ≡ xs ++ replicate (size - length xs) 0
front_padded xs size most least below =
    let cut : length xs + (size - length xs) ≡ size = omega (arith, least) in
    let fewer : size - length xs ≤ most - length xs = omega (arith, least, below) in
    ap (λ (n : ℕ). take n (xs ++ replicate (most - length xs) 0)) (sym cut)
    ∙ take-append-add xs (replicate (most - length xs) 0) (size - length xs)
    ∙ ap (λ (zeros : List ℕ). xs ++ zeros) (take-replicate (size - length xs) (most - length xs) 0 fewer)
