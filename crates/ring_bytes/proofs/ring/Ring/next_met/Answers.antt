use Rattle.std.proofs.Common.{◌≡◌, ◌+◌, ◌<◌, ◌≤◌, ℕ, min, List, Option, Some, None, sym, ap, ◌∙◌}
use Rattle.std.specs.List.{find}
use Rattle.std.specs.Option.{option_map}
use Rattle.ring_bytes.specs.declared.ring.Ring.TheInside.{Inside}
use Rattle.ring_bytes.specs.Fields.{ring_view, IsRing}
use Rattle.ring_bytes.specs.Rows.{live_row}
use Rattle.ring_bytes.specs.Value.{Stored, RingValue, next_met_of}
use Rattle.ring_bytes.proofs.MetLemmas.{before, found_until, found_over_first, found_over_then, met_alone, met_is, no_place, some_place}
use Rattle.ring_bytes.proofs.ring.Ring.next_met.Goals as goal

-- what a walk along a row has found
abbrev Walked : List ℕ → ℕ → ℕ → ℕ → Option ℕ → Type 0
Walked seen at end limit result = result ≡ option_map (λ (s : Stored). s.at) (find (before limit) (live_row seen at end))

fit : (a : Inside) (v : RingValue) (len limit : ℕ) (seen : List ℕ) (result : Option ℕ) → ring_view a ≡ v → IsRing a → a.next + len ≤ a.size → limit ≡ min a.reached (a.next + len) → seen ≡ a.bytes.items → Walked seen a.clear a.reached limit result → result ≡ next_met_of v len
fit a v len limit seen result view ok fits limit_is same walked =
    walked
    ∙ ap (λ b. option_map (λ (s : Stored). s.at) (find (before limit) (live_row b a.clear a.reached))) same
    ∙ ap (λ n. option_map (λ (s : Stored). s.at) (find (before n) (live_row a.bytes.items a.clear a.reached))) limit_is
    ∙ met_is a v len (find (before (min a.reached (a.next + len))) (live_row a.bytes.items a.clear a.reached)) view (found_until a len ok fits)

older : (a : Inside) (v : RingValue) (len place : ℕ) (seen : List ℕ) (result : Option ℕ) → ring_view a ≡ v → IsRing a → a.size < a.next + len → seen ≡ a.bytes.items → result ≡ Some place → Walked seen a.clear a.reached a.reached result → Some place ≡ next_met_of v len
older a v len place seen result view ok over same is walked =
    let p = some_place (find (before a.reached) (live_row a.bytes.items a.clear a.reached)) place
    (sym is ∙ walked ∙ ap (λ b. option_map (λ (s : Stored). s.at) (find (before a.reached) (live_row b a.clear a.reached))) same) in
    ap (λ n. Some n) (sym p.2) ∙ met_is a v len (Some p.0) view (found_over_first a len p.0 ok over p.1)

newer : (a : Inside) (v : RingValue) (len limit : ℕ) (seen again : List ℕ) (first result : Option ℕ) → ring_view a ≡ v → IsRing a → a.size < a.next + len → seen ≡ a.bytes.items → first ≡ None → Walked seen a.clear a.reached a.reached first → limit ≡ min a.next len → again ≡ a.bytes.items → Walked again a.front a.next limit result → result ≡ next_met_of v len
newer a v len limit seen again first result view ok over same is walked limit_is same_again walked_again =
    let none = no_place (find (before a.reached) (live_row a.bytes.items a.clear a.reached))
    (sym is ∙ walked ∙ ap (λ b. option_map (λ (s : Stored). s.at) (find (before a.reached) (live_row b a.clear a.reached))) same) in
    walked_again
    ∙ ap (λ b. option_map (λ (s : Stored). s.at) (find (before limit) (live_row b a.front a.next))) same_again
    ∙ ap (λ n. option_map (λ (s : Stored). s.at) (find (before n) (live_row a.bytes.items a.front a.next))) limit_is
    ∙ met_is a v len (find (before (min a.next len)) (live_row a.bytes.items a.front a.next)) view (found_over_then a len ok over none)

pub returns-then-self-len-clause-first : goal.returns-then-self-len-clause-first
returns-then-self-len-clause-first c =
    fit c.self.inside c.args.self.now c.args.len c.min-limit.result _ c.first_live.result c.self.view_is c.self.invariant c.if-self-len.true c.min-limit.ensures c.deref.ensures.value c.first_live.ensures

pub returns-then-self-len-clause-alone : goal.returns-then-self-len-clause-alone
returns-then-self-len-clause-alone c =
    met_alone c.self.inside c.args.self.now c.args.len c.first_live.result c.self.view_is c.self.invariant
    (fit c.self.inside c.args.self.now c.args.len c.min-limit.result _ c.first_live.result c.self.view_is c.self.invariant c.if-self-len.true c.min-limit.ensures c.deref.ensures.value c.first_live.ensures)

pub returns-in-Some-clause-first : goal.returns-in-Some-clause-first
returns-in-Some-clause-first c =
    older c.self.inside c.args.self.now c.args.len c.in-Some.place _ c.first_live-2.result c.self.view_is c.self.invariant c.if-self-len.false
    c.deref-2.ensures.value c.in-Some.is c.first_live-2.ensures

pub returns-in-Some-clause-alone : goal.returns-in-Some-clause-alone
returns-in-Some-clause-alone c =
    met_alone c.self.inside c.args.self.now c.args.len (Some c.in-Some.place) c.self.view_is c.self.invariant
    (older c.self.inside c.args.self.now c.args.len c.in-Some.place _ c.first_live-2.result c.self.view_is c.self.invariant c.if-self-len.false
    c.deref-2.ensures.value c.in-Some.is c.first_live-2.ensures)

pub returns-in-None-clause-first : goal.returns-in-None-clause-first
returns-in-None-clause-first c =
    newer c.self.inside c.args.self.now c.args.len c.min.result _ _ c.first_live-2.result c.first_live-in-None.result c.self.view_is c.self.invariant
    c.if-self-len.false c.deref-2.ensures.value c.in-None.is c.first_live-2.ensures c.min.ensures c.deref-in-None.ensures.value c.first_live-in-None.ensures

pub returns-in-None-clause-alone : goal.returns-in-None-clause-alone
returns-in-None-clause-alone c =
    met_alone c.self.inside c.args.self.now c.args.len c.first_live-in-None.result c.self.view_is c.self.invariant
    (newer c.self.inside c.args.self.now c.args.len c.min.result _ _ c.first_live-2.result c.first_live-in-None.result c.self.view_is c.self.invariant
    c.if-self-len.false c.deref-2.ensures.value c.in-None.is c.first_live-2.ensures c.min.ensures c.deref-in-None.ensures.value c.first_live-in-None.ensures)
