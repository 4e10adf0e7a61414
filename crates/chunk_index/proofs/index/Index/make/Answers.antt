use Rattle.std.proofs.Common.{◌≡◌, ℕ, ◌+◌, ◌-◌, ◌*◌, List, [], ◌++◌, Option, None, length, replicate, sym, ap, ◌∙◌, subst, arith}
use Rattle.std.proofs.lemmas.List.{length-replicate, take_all}
use Rattle.std.specs.FinMap.{FinMap, len, len-empty}
use Rattle.std.specs.Ordering.{nat_cmp}
use Rattle.chunk_index.specs.declared.slot.Entry.{Entry}
use Rattle.chunk_index.specs.Slots.{entries_of, map_of}
use Rattle.chunk_index.specs.Table.{IsTable}
use Rattle.chunk_index.proofs.SlotLemmas.{entries_replicate}
use Rattle.chunk_index.proofs.MapLemmas.{map_empty, table_empty}
use Rattle.chunk_index.proofs.index.Index.make.Goals as goal

-- all slots are free
slots_free : (c : goal.In_ok-others) → c.resize.new.self.items ≡ replicate (3 * c.min-room.result + 1) None
slots_free c =
    let many : ℕ = 3 * c.min-room.result + 1 in
    let before : List (Option Entry) = c.in_ok-slots.slots.items in
    let none : before ≡ [] = c.in_ok-slots.ensures.items in
    let free : ℕ → List (Option Entry) = λ n. replicate n None in
    let all : many - c.in_ok-slots.slots.len ≡ many = omega (arith, c.in_ok-slots.ensures.len) in
    c.in_ok-resize.ensures.items
    ∙ ap (λ (slots : List (Option Entry)). slots ++ free (many - c.in_ok-slots.slots.len))
    (take_all many before (omega (arith, ap length none)) ∙ none)
    ∙ ap free all

pub invariant_of-result : goal.invariant_of-result
invariant_of-result c =
    let room = c.min-room.result in
    let items = slots_free c in
    let none : length (entries_of c.resize.new.self.items) ≡ 0 = ap (λ s. length (entries_of s)) items ∙ ap length (entries_replicate (3 * room + 1)) in
    record {
      room = record {
        size = ap length items ∙ length-replicate _ None;
        table = subst (IsTable room) (sym items) (table_empty room (3 * room + 1));
        within = let least = c.min-room.ensures in omega arith;
        free = λ less. c.in_ok-others.ensures.items;
        fits = λ less. let first = c.in_ok-slots.ensures.capacity in let kept = c.in_ok-resize.ensures.capacity in omega (arith, first, kept);
        others_fit = λ less. c.in_ok-others.ensures.capacity;
      };
      used = sym none;
      count =
          ap (λ s. len (map_of s)) items
          ∙ ap (λ (m : FinMap nat_cmp ℕ). len m) (map_empty (3 * room + 1))
          ∙ len-empty nat_cmp ℕ
          ∙ sym none;
    }

pub returns : goal.returns
returns c =
    ap (λ (m : FinMap nat_cmp ℕ). record { capacity = c.args.capacity; places = m })
    (ap map_of (slots_free c) ∙ map_empty (3 * c.min-room.result + 1))
