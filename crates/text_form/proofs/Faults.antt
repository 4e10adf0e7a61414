-- Where a text is refused it begins no text of this form any more, and before this byte it does.
use Rattle.std.proofs.Common.{◌≡◌, ◌∙◌, ℕ, suc, ◌<◌, ◌≤◌, false, ◌==◌, List, [], ◌∷◌, ◌++◌, length, take, Result, Ok, Err, refl, sym, ap, subst, arith, if◌then◌else◌}
use Rattle.std.proofs.lemmas.List.{append-nil}
use Rattle.std.proofs.lemmas.Bool.{cond_both}
use Rattle.text_form.specs.Bytes.{line_behind, line_at}
use Rattle.text_form.specs.Entries.{Item, items_of}
use Rattle.text_form.specs.Grammar.{spot, IsBadAt}
use Rattle.text_form.specs.Machine.{Start, Ended, Named, Valued, Mode, Between, InComment, InName, InWord, InQuotes, Step, Moved, Refused, step, at_end, items_from, items_or_line, behind_step, with_items}
use Rattle.text_form.specs.Laws.{TextsAreRead, Means}
use Rattle.text_form.proofs.Again.{with_items-ok, fields_are_read}
use Rattle.text_form.proofs.Before.{IsRest}
use Rattle.text_form.proofs.Accepted.{AreHere, accepted, with_items-err}
use Rattle.text_form.proofs.Completes.{goes_on}

-- from where the reading stands, the rest of the text is bad at this line
record IsBadFrom (depth line : ℕ) (mode : Mode) (text : List ℕ) (bad : ℕ) : Type 0 where
  pub place : ℕ
  pub inside : place ≤ length text
  pub more : List ℕ
  pub items : List Item
  pub before : items_from depth line mode (take place text ++ more) ≡ Ok items
  pub here : place < length text → (later : List ℕ) (others : List Item) → items_from depth line mode (take (suc place) text ++ later) ≡ Ok others → ⊥
  pub line_is : bad ≡ line_at line (take place text)

-- what isn't read is bad
abbrev IsBadWhere : ℕ → ℕ → Mode → List ℕ → Result (List Item) ℕ → Type 0
IsBadWhere depth line mode text (Ok items) = Unit {0}
IsBadWhere depth line mode text (Err bad) = IsBadFrom depth line mode text bad

-- refused on this line
abbrev IsRefusedOn : ℕ → Result (List Item) ℕ → Type 0
IsRefusedOn line (Ok items) = Unit {0}
IsRefusedOn line (Err bad) = bad ≡ line

either_on : (depth line : ℕ) (items : List Item) → IsRefusedOn line (if depth == 0 then Ok items else Err line)
either_on depth line items = cond_both (depth == 0) (Ok items) (Err line) (IsRefusedOn line) (λ _. tt) (λ _. refl)

end_on : (depth line : ℕ) (mode : Mode) → IsRefusedOn line (at_end depth line mode)
end_on depth line (Between Start) = either_on depth line []
end_on depth line (Between Ended) = either_on depth line []
end_on depth line (Between (Named at name)) = refl
end_on depth line (Between (Valued at name)) = refl
end_on depth line (InComment Start) = either_on depth line []
end_on depth line (InComment Ended) = either_on depth line []
end_on depth line (InComment (Named at name)) = refl
end_on depth line (InComment (Valued at name)) = refl
end_on depth line (InName at name) = refl
end_on depth line (InWord at name word) = either_on depth line _
end_on depth line (InQuotes at name text) = refl

nothing_bad : (depth line : ℕ) (mode : Mode) (r : Result (List Item) ℕ) → IsRefusedOn line r → IsBadWhere depth line mode [] r
nothing_bad depth line mode (Ok items) on = tt
nothing_bad depth line mode (Err bad) on =
    let next = goes_on depth line mode in
    record {
      place = 0;
      inside = omega arith;
      more = next.more;
      items = next.items;
      before = next.same;
      here = λ low later others is. omega (arith, low);
      line_is = on;
    }

-- the byte is refused
refused_bad : (depth line : ℕ) (mode : Mode) (byte : ℕ) (rest : List ℕ) → step depth line mode byte ≡ Refused
    → IsBadFrom depth line mode (byte ∷ rest) line
refused_bad depth line mode byte rest refused =
    let next = goes_on depth line mode in
    record {
      place = 0;
      inside = omega arith;
      more = next.more;
      items = next.items;
      before = next.same;
      here = λ low later others is.
          let none : items_from depth line mode (byte ∷ later) ≡ Err line =
          ap (behind_step line (λ deep to. items_from deep (line_behind line byte) to later)) refused in
          let both : Err line ≡ Ok others = sym none ∙ is in
          cc;
      line_is = refl;
    }

-- where items with others before them are read, these others are
ok_behind : (items all : List Item) (r : Result (List Item) ℕ) → with_items items r ≡ Ok all → (others : List Item) × (r ≡ Ok others)
ok_behind items all (Ok others) is = (others, refl)
ok_behind items all (Err bad) is =
    let none = with_items-err items bad in
    let both : Err bad ≡ Ok all = sym none ∙ is in
    absurd (cc)

-- the byte is taken, and the rest is bad
moved_bad : (depth line : ℕ) (mode : Mode) (byte : ℕ) (rest : List ℕ) (items : List Item) (deep : ℕ) (to : Mode) (bad : ℕ)
    → step depth line mode byte ≡ Moved items deep to → IsBadFrom deep (line_behind line byte) to rest bad
    → IsBadFrom depth line mode (byte ∷ rest) bad
moved_bad depth line mode byte rest items deep to bad moved from = record {
  place = suc from.place;
  inside = (let low = from.inside in omega arith);
  more = from.more;
  items = items ++ from.items;
  before = taken (take from.place rest ++ from.more) ∙ ap (with_items items) from.before ∙ with_items-ok items from.items;
  here = λ low later others is.
      let next = ok_behind items others _ (sym (taken (take (suc from.place) rest ++ later)) ∙ is) in
      from.here (omega (arith, low)) later next.0 next.1;
  line_is = from.line_is;
}
  where
    taken : (others : List ℕ) → items_from depth line mode (byte ∷ others) ≡ with_items items (items_from deep (line_behind line byte) to others)
    taken others = ap (behind_step line (λ deep to. items_from deep (line_behind line byte) to others)) moved

bad_from : (depth line : ℕ) (mode : Mode) (text : List ℕ) → IsBadWhere depth line mode text (items_from depth line mode text)
bad_from depth line mode [] = nothing_bad depth line mode (at_end depth line mode) (end_on depth line mode)
bad_from depth line mode (byte ∷ rest) =
    behind (λ deep to. bad_from deep (line_behind line byte) to rest) (step depth line mode byte) refl
  where
    joined : (items : List Item) (deep : ℕ) (to : Mode) → step depth line mode byte ≡ Moved items deep to
        → (r : Result (List Item) ℕ) → IsBadWhere deep (line_behind line byte) to rest r → IsBadWhere depth line mode (byte ∷ rest) (with_items items r)
    joined items deep to moved (Ok others) from =
        let P : Result (List Item) ℕ → Type 0 = IsBadWhere depth line mode (byte ∷ rest) in
        subst P (sym (with_items-ok items others)) tt
    joined items deep to moved (Err bad) from =
        let P : Result (List Item) ℕ → Type 0 = IsBadWhere depth line mode (byte ∷ rest) in
        subst P (sym (with_items-err items bad)) (moved_bad depth line mode byte rest items deep to bad moved from)

    behind : ((deep : ℕ) (to : Mode) → IsBadWhere deep (line_behind line byte) to rest (items_from deep (line_behind line byte) to rest))
        → (s : Step) → step depth line mode byte ≡ s
        → IsBadWhere depth line mode (byte ∷ rest) (behind_step line (λ deep to. items_from deep (line_behind line byte) to rest) s)
    behind later Refused is = refused_bad depth line mode byte rest is
    behind later (Moved items deep to) is = joined items deep to is (items_from deep (line_behind line byte) to rest) (later deep to)

-- ---- the whole text

text_of : (text : List ℕ) (items : List Item) → IsRest 0 false items (spot 1 text) → Means text (Ok items)
text_of text items rest =
    let closing = rest.closing in
    record {
      entries = rest.entries;
      text_of = record { last = rest.last; fields = rest.fields; ends = closing.1 };
      items_are = rest.items_are ∙ ap (λ (l : List Item). items_of rest.entries ++ l) closing.0 ∙ append-nil (items_of rest.entries);
    }

says : (text : List ℕ) (items : List Item) → items_from 0 1 (Between Start) text ≡ Ok items → Means text (Ok items)
says text items is =
    let P : Result (List Item) ℕ → Type 0 = AreHere 0 (Between Start) (spot 1 text) in
    text_of text items (subst P is (accepted 0 1 (Between Start) text))

bad_at : (text : List ℕ) (line : ℕ) → items_from 0 1 (Between Start) text ≡ Err line → IsBadFrom 0 1 (Between Start) text line → IsBadAt text line
unfolding items_or_line
bad_at text line none from = record {
  place = from.place;
  inside = from.inside;
  before = (let front = says (take from.place text ++ from.more) from.items from.before in
      record { entries = front.entries; more = from.more; whole = front.text_of });
  here = λ low begun. from.here low begun.more (items_of begun.entries) (fields_are_read begun.entries (take (suc from.place) text ++ begun.more) begun.whole);
  at_end = λ all entries is.
      let both : Err line ≡ Ok (items_of entries) = sym none ∙ fields_are_read entries text is in
      cc;
  line_is = from.line_is;
}

pub texts_are_read : TextsAreRead
unfolding items_or_line
texts_are_read text = means (items_from 0 1 (Between Start) text) refl
  where
    means : (r : Result (List Item) ℕ) → items_from 0 1 (Between Start) text ≡ r → Means text r
    means (Ok items) is = says text items is
    means (Err line) is =
        let P : Result (List Item) ℕ → Type 0 = IsBadWhere 0 1 (Between Start) text in
        bad_at text line is (subst P is (bad_from 0 1 (Between Start) text))
