-- What is spelled is read.
use Rattle.std.proofs.Common.{◌≡◌, ◌≢◌, ℕ, zero, suc, ◌-◌, ◌^◌, ◌<◌, ◌≤◌, Bool, true, false, ◌&&◌, ◌==◌, nat_lt, Option, Some, option_and_then, List, [], ◌∷◌, ◌++◌, refl, sym, ap, subst, arith, ◌∙◌, append_assoc}
use Rattle.std.proofs.lemmas.List.{append-nil}
use Rattle.std.proofs.lemmas.Bool.{cond-true, lt-ltb, and_from}
use Rattle.std.specs.List.{AllByRecursion}
use Rattle.trace_model.specs.Encoding.{Fields, NoFields, NumberField, BytesField, NestedField}
use Rattle.field_tree.specs.declared.node.FieldNode.TheVariants.{Number, Bytes, Begin, End}
use Rattle.field_tree.specs.declared.mode.Mode.TheVariants.{Start, Field, Value, Zero, Digits, Text, Quoted, Star, Times, Tick, Pairs, Packed, After}
use Rattle.field_tree.specs.declared.mode.Action.{Action}
use Rattle.field_tree.specs.declared.mode.Action.TheVariants.{Refuse, Close}
use Rattle.field_tree.specs.Nodes.{Shown, nodes_of, IsField}
use Rattle.field_tree.specs.Grammar.{IsTextByte, IsByte, number, pairs, BytesSpelling, Quoted as AsQuoted, Repeated, InPairs, IsSpelling, Spells}
use Rattle.field_tree.specs.Machine.{TextReading, act, settled, moved, applied, next, run, ended, finish, beginning}
use Rattle.field_tree.proofs.TestLemmas.{number_digit}
use Rattle.field_tree.specs.Scanning.{reading_with}
use Rattle.field_tree.proofs.Runs.{run_joins, run_next, run_last, field_runs, value_runs, times_runs, text_step, pair_runs}
use Rattle.field_tree.proofs.Accepted.{accepted}
use Rattle.field_tree.proofs.ScanLemmas.{at_colon, at_quote, at_second_quote, at_star, at_x, at_tick, at_second_tick}

abbrev pub start_at : List Shown → ℕ → Bool → TextReading
start_at ns d opened = reading_with ns d [] (Start opened)

abbrev pub after_at : List Shown → ℕ → TextReading
after_at ns d = reading_with ns d [] After

-- the text is read up to a place where a field may end, and these are the nodes then
pub record Runs (from : TextReading) (text : List ℕ) (to : TextReading) : Type 0 where
  pub stop : TextReading
  pub run_is : run from text ≡ Some stop
  pub settled_is : settled stop ≡ to

-- ---- a space and the two braces

space_next : (q : TextReading) (ns : List Shown) (d : ℕ) → settled q ≡ after_at ns d → next q 32 ≡ Some (start_at ns d false)
unfolding next act applied
space_next q ns d is = ap (moved 32) is

pub end_next : (q : TextReading) (ns : List Shown) (d : ℕ) → settled q ≡ after_at ns (suc d) → next q 125 ≡ Some (after_at (ns ++ (End, []) ∷ []) d)
unfolding next act applied
end_next q ns d is =
    let inner : nat_lt 0 (suc d) ≡ true = lt-ltb 0 (suc d) (omega arith) in
    let less : suc d - 1 ≡ d = omega arith in
    ap (moved 125) is
    ∙ ap (λ (a : Action). applied a (after_at ns (suc d))) (cond-true (nat_lt 0 (suc d) && 125 == 125) Close Refuse (and_from (nat_lt 0 (suc d)) (125 == 125) inner refl))
    ∙ ap (λ (e : ℕ). Some (after_at (ns ++ (End, []) ∷ []) e)) less

empty_end : (ns : List Shown) (d : ℕ) → next (start_at ns (suc d) true) 125 ≡ Some (after_at (ns ++ (End, []) ∷ []) d)
unfolding next act applied settled
empty_end ns d =
    let inner : nat_lt 0 (suc d) ≡ true = lt-ltb 0 (suc d) (omega arith) in
    let less : suc d - 1 ≡ d = omega arith in
    ap (λ (a : Action). applied a (start_at ns (suc d) true)) (cond-true (nat_lt 0 (suc d) && 125 == 125) Close Refuse (and_from (nat_lt 0 (suc d)) (125 == 125) inner refl))
    ∙ ap (λ (e : ℕ). Some (after_at (ns ++ (End, []) ∷ []) e)) less

brace_next : (ns : List Shown) (d f : ℕ) → next (reading_with ns d [] (Field f)) 123 ≡ Some (start_at (ns ++ (Begin f, []) ∷ []) (suc d) true)
unfolding next act applied
brace_next ns d f = refl

-- ---- texts one behind another

spaced_runs : (q to : TextReading) (ns : List Shown) (d : ℕ) (text : List ℕ) → settled q ≡ after_at ns d
    → Runs (start_at ns d false) text to → Runs q (32 ∷ text) to
spaced_runs q to ns d text is r = record {
  stop = r.stop;
  run_is = run_next 32 text q (start_at ns d false) (Some r.stop) (space_next q ns d is) r.run_is;
  settled_is = r.settled_is;
}

then_runs : (s m to : TextReading) (word rest : List ℕ) → Runs s word m → ((q : TextReading) → settled q ≡ m → Runs q rest to) → Runs s (word ++ rest) to
then_runs s m to word rest first later =
    let r = later first.stop first.settled_is in
    record {
      stop = r.stop;
      run_is = run_joins word rest s first.stop (Some r.stop) first.run_is r.run_is;
      settled_is = r.settled_is;
    }

-- ---- a field of a number

zero_next : (ns : List Shown) (d f : ℕ) → next (reading_with ns d [] (Value f)) 48 ≡ Some (reading_with ns d [] (Zero f))
unfolding next act applied
zero_next ns d f = refl

settled_zero : (ns : List Shown) (d f : ℕ) → settled (reading_with ns d [] (Zero f)) ≡ after_at (ns ++ (Number f 0, []) ∷ []) d
unfolding settled
settled_zero ns d f = refl

settled_digits : (ns : List Shown) (d f v : ℕ) → settled (reading_with ns d [] (Digits f v)) ≡ after_at (ns ++ (Number f v, []) ∷ []) d
unfolding settled
settled_digits ns d f v = refl

number_value : (ns : List Shown) (d f v : ℕ) → v < 2 ^ 64 → Runs (reading_with ns d [] (Value f)) (number v) (after_at (ns ++ (Number f v, []) ∷ []) d)
number_value ns d f zero fits =
    let P : List ℕ → Type 0 = λ w. Runs (reading_with ns d [] (Value f)) w (after_at (ns ++ (Number f 0, []) ∷ []) d) in
    subst P (sym (number_digit 0 (omega arith))) (record {
      stop = reading_with ns d [] (Zero f);
      run_is = run_last 48 (reading_with ns d [] (Value f)) (Some (reading_with ns d [] (Zero f))) (zero_next ns d f);
      settled_is = settled_zero ns d f;
    })
number_value ns d f (suc v) fits = record {
  stop = reading_with ns d [] (Digits f (suc v));
  run_is = value_runs ns d f (suc v) (omega arith) fits;
  settled_is = settled_digits ns d f (suc v);
}

field_value : (ns : List Shown) (d : ℕ) (opened : Bool) (f : ℕ) (value : List ℕ) (to : TextReading) → IsField f
    → Runs (reading_with ns d [] (Value f)) value to → Runs (start_at ns d opened) (number f ++ 58 ∷ value) to
field_value ns d opened f value to field r = record {
  stop = r.stop;
  run_is = run_joins (number f) (58 ∷ value) (start_at ns d opened) (reading_with ns d [] (Field f)) (Some r.stop) (field_runs ns d opened f field.0 field.1)
      (run_next 58 value (reading_with ns d [] (Field f)) (reading_with ns d [] (Value f)) (Some r.stop) (at_colon ns d f) r.run_is);
  settled_is = r.settled_is;
}

-- ---- a field of a text

settled_quoted : (ns : List Shown) (d f : ℕ) (t : List ℕ) → settled (reading_with ns d t (Quoted f)) ≡ after_at (ns ++ (Bytes f 1, t) ∷ []) d
unfolding settled
settled_quoted ns d f t = refl

settled_times : (ns : List Shown) (d f k : ℕ) (t : List ℕ) → settled (reading_with ns d t (Times f k)) ≡ after_at (ns ++ (Bytes f k, t) ∷ []) d
unfolding settled
settled_times ns d f k t = refl

settled_packed : (ns : List Shown) (d f : ℕ) (t : List ℕ) → settled (reading_with ns d t (Packed f)) ≡ after_at (ns ++ (Bytes f 1, t) ∷ []) d
unfolding settled
settled_packed ns d f t = refl

-- the bytes of a text, and what follows
text_runs : (t done rest : List ℕ) (ns : List Shown) (d f : ℕ) (o : Option TextReading) → AllByRecursion IsTextByte t
    → run (reading_with ns d (done ++ t) (Text f)) rest ≡ o → run (reading_with ns d done (Text f)) (t ++ rest) ≡ o
text_runs [] done rest ns d f o all later =
    let P : List ℕ → Type 0 = λ w. run (reading_with ns d w (Text f)) rest ≡ o in
    subst P (append-nil done) later
text_runs (b ∷ t) done rest ns d f o all later =
    let P : List ℕ → Type 0 = λ w. run (reading_with ns d w (Text f)) rest ≡ o in
    run_next b (t ++ rest) (reading_with ns d done (Text f)) (reading_with ns d (done ++ b ∷ []) (Text f)) o (text_step ns d f b done all.0)
    (text_runs t (done ++ b ∷ []) rest ns d f o all.1 (subst P (sym (append_assoc done (b ∷ []) t)) later))

pairs_run : (t done rest : List ℕ) (ns : List Shown) (d f : ℕ) (o : Option TextReading) → AllByRecursion IsByte t
    → run (reading_with ns d (done ++ t) (Pairs f)) rest ≡ o → run (reading_with ns d done (Pairs f)) (pairs t ++ rest) ≡ o
pairs_run [] done rest ns d f o all later =
    let P : List ℕ → Type 0 = λ w. run (reading_with ns d w (Pairs f)) rest ≡ o in
    subst P (append-nil done) later
pairs_run (b ∷ t) done rest ns d f o all later =
    let P : List ℕ → Type 0 = λ w. run (reading_with ns d w (Pairs f)) rest ≡ o in
    pair_runs ns d f b done (pairs t ++ rest) o all.0
    (pairs_run t (done ++ b ∷ []) rest ns d f o all.1 (subst P (sym (append_assoc done (b ∷ []) t)) later))

quoted_value : (ns : List Shown) (d f : ℕ) (t : List ℕ) → AllByRecursion IsTextByte t
    → Runs (reading_with ns d [] (Value f)) (34 ∷ (t ++ 34 ∷ [])) (after_at (ns ++ (Bytes f 1, t) ∷ []) d)
quoted_value ns d f t all =
    let to : Option TextReading = Some (reading_with ns d t (Quoted f)) in
    record {
      stop = reading_with ns d t (Quoted f);
      run_is = run_next 34 (t ++ 34 ∷ []) (reading_with ns d [] (Value f)) (reading_with ns d [] (Text f)) to (at_quote ns d f)
          (text_runs t [] (34 ∷ []) ns d f to all (run_last 34 (reading_with ns d t (Text f)) to (at_second_quote ns d f t)));
      settled_is = settled_quoted ns d f t;
    }

repeated_value : (ns : List Shown) (d f k : ℕ) (t : List ℕ) → AllByRecursion IsTextByte t → 1 ≤ k → k ≤ 1048576
    → Runs (reading_with ns d [] (Value f)) (34 ∷ (t ++ 34 ∷ 42 ∷ number k)) (after_at (ns ++ (Bytes f k, t) ∷ []) d)
repeated_value ns d f k t all some fits =
    let to : Option TextReading = Some (reading_with ns d t (Times f k)) in
    record {
      stop = reading_with ns d t (Times f k);
      run_is = run_next 34 (t ++ 34 ∷ 42 ∷ number k) (reading_with ns d [] (Value f)) (reading_with ns d [] (Text f)) to (at_quote ns d f)
          (text_runs t [] (34 ∷ 42 ∷ number k) ns d f to all
          (run_next 34 (42 ∷ number k) (reading_with ns d t (Text f)) (reading_with ns d t (Quoted f)) to (at_second_quote ns d f t)
          (run_next 42 (number k) (reading_with ns d t (Quoted f)) (reading_with ns d t (Star f)) to (at_star ns d f t)
          (times_runs ns d f k t some fits))));
      settled_is = settled_times ns d f k t;
    }

packed_value : (ns : List Shown) (d f : ℕ) (t : List ℕ) → AllByRecursion IsByte t
    → Runs (reading_with ns d [] (Value f)) (120 ∷ 39 ∷ (pairs t ++ 39 ∷ [])) (after_at (ns ++ (Bytes f 1, t) ∷ []) d)
packed_value ns d f t all =
    let to : Option TextReading = Some (reading_with ns d t (Packed f)) in
    record {
      stop = reading_with ns d t (Packed f);
      run_is = run_next 120 (39 ∷ (pairs t ++ 39 ∷ [])) (reading_with ns d [] (Value f)) (reading_with ns d [] (Tick f)) to (at_x ns d f)
          (run_next 39 (pairs t ++ 39 ∷ []) (reading_with ns d [] (Tick f)) (reading_with ns d [] (Pairs f)) to (at_tick ns d f)
          (pairs_run t [] (39 ∷ []) ns d f to all (run_last 39 (reading_with ns d t (Pairs f)) to (at_second_tick ns d f t))));
      settled_is = settled_packed ns d f t;
    }

bytes_value : (ns : List Shown) (d f k : ℕ) (t value : List ℕ) → BytesSpelling t k value
    → Runs (reading_with ns d [] (Value f)) value (after_at (ns ++ (Bytes f k, t) ∷ []) d)
bytes_value ns d f k t value (AsQuoted all once is) =
    let P : List ℕ → Type 0 = λ w. Runs (reading_with ns d [] (Value f)) w (after_at (ns ++ (Bytes f k, t) ∷ []) d) in
    let Q : ℕ → Type 0 = λ n. Runs (reading_with ns d [] (Value f)) (34 ∷ (t ++ 34 ∷ [])) (after_at (ns ++ (Bytes f n, t) ∷ []) d) in
    subst P (sym is) (subst Q (sym once) (quoted_value ns d f t all))
bytes_value ns d f k t value (Repeated all some fits is) =
    let P : List ℕ → Type 0 = λ w. Runs (reading_with ns d [] (Value f)) w (after_at (ns ++ (Bytes f k, t) ∷ []) d) in
    subst P (sym is) (repeated_value ns d f k t all some fits)
bytes_value ns d f k t value (InPairs all once is) =
    let P : List ℕ → Type 0 = λ w. Runs (reading_with ns d [] (Value f)) w (after_at (ns ++ (Bytes f k, t) ∷ []) d) in
    let Q : ℕ → Type 0 = λ n. Runs (reading_with ns d [] (Value f)) (120 ∷ 39 ∷ (pairs t ++ 39 ∷ [])) (after_at (ns ++ (Bytes f n, t) ∷ []) d) in
    subst P (sym is) (subst Q (sym once) (packed_value ns d f t all))

-- ---- all fields of a message

abbrev StartsRun : Fields → Type 0
StartsRun fields = (text : List ℕ) → fields ≢ NoFields → IsSpelling false fields text
    → (ns : List Shown) (d : ℕ) (opened : Bool) → Runs (start_at ns d opened) text (after_at (ns ++ nodes_of fields) d)

behind_runs : (fields : Fields) → StartsRun fields → (text : List ℕ) → IsSpelling true fields text
    → (ns : List Shown) (d : ℕ) (q : TextReading) → settled q ≡ after_at ns d → Runs q text (after_at (ns ++ nodes_of fields) d)
behind_runs NoFields starts text spelled ns d q is =
    let P : List ℕ → Type 0 = λ w. Runs q w (after_at (ns ++ []) d) in
    subst P (sym spelled) (record {
      stop = q;
      run_is = unfold run in refl;
      settled_is = is ∙ ap (λ (all : List Shown). after_at all d) (sym (append-nil ns));
    })
behind_runs (NumberField f v others) starts text spelled ns d q is =
    let P : List ℕ → Type 0 = λ w. Runs q w (after_at (ns ++ nodes_of (NumberField f v others)) d) in
    subst P (sym spelled.3) (spaced_runs q _ ns d _ is
    (starts ((number f ++ 58 ∷ number v) ++ spelled.2) (λ none. cc) (spelled.0, spelled.1, spelled.2, refl, spelled.4) ns d false))
behind_runs (BytesField f t k others) starts text spelled ns d q is =
    let P : List ℕ → Type 0 = λ w. Runs q w (after_at (ns ++ nodes_of (BytesField f t k others)) d) in
    subst P (sym spelled.4) (spaced_runs q _ ns d _ is
    (starts ((number f ++ 58 ∷ spelled.1) ++ spelled.3) (λ none. cc) (spelled.0, spelled.1, spelled.2, spelled.3, refl, spelled.5) ns d false))
behind_runs (NestedField f inner others) starts text spelled ns d q is =
    let P : List ℕ → Type 0 = λ w. Runs q w (after_at (ns ++ nodes_of (NestedField f inner others)) d) in
    subst P (sym spelled.4) (spaced_runs q _ ns d _ is
    (starts ((number f ++ 123 ∷ spelled.1 ++ 125 ∷ []) ++ spelled.3) (λ none. cc) (spelled.0, spelled.1, spelled.2, spelled.3, refl, spelled.5) ns d false))

inner_joins : (ns : List Shown) (inner : Fields) (text : List ℕ) (d : ℕ) → Runs (start_at ns (suc d) true) text (after_at (ns ++ nodes_of inner) (suc d))
    → run (start_at ns (suc d) true) (text ++ 125 ∷ []) ≡ Some (after_at (ns ++ (nodes_of inner ++ (End, []) ∷ [])) d)
inner_joins ns inner text d r =
    run_joins text (125 ∷ []) (start_at ns (suc d) true) r.stop (Some (after_at (ns ++ (nodes_of inner ++ (End, []) ∷ [])) d)) r.run_is
    (run_last 125 r.stop (Some (after_at (ns ++ (nodes_of inner ++ (End, []) ∷ [])) d))
    (end_next r.stop (ns ++ nodes_of inner) d r.settled_is
    ∙ ap (λ (all : List Shown). Some (after_at all d)) (append_assoc ns (nodes_of inner) ((End, []) ∷ []))))

inner_ends : (inner : Fields) → StartsRun inner → (text : List ℕ) → IsSpelling false inner text → (ns : List Shown) (d : ℕ)
    → run (start_at ns (suc d) true) (text ++ 125 ∷ []) ≡ Some (after_at (ns ++ (nodes_of inner ++ (End, []) ∷ [])) d)
inner_ends NoFields starts text spelled ns d =
    let P : List ℕ → Type 0 = λ w. run (start_at ns (suc d) true) (w ++ 125 ∷ []) ≡ Some (after_at (ns ++ (End, []) ∷ []) d) in
    subst P (sym spelled) (run_last 125 (start_at ns (suc d) true) (Some (after_at (ns ++ (End, []) ∷ []) d)) (empty_end ns d))
inner_ends (NumberField f v others) starts text spelled ns d =
    inner_joins ns (NumberField f v others) text d (starts text (λ none. cc) spelled ns (suc d) true)
inner_ends (BytesField f t k others) starts text spelled ns d =
    inner_joins ns (BytesField f t k others) text d (starts text (λ none. cc) spelled ns (suc d) true)
inner_ends (NestedField f inner others) starts text spelled ns d =
    inner_joins ns (NestedField f inner others) text d (starts text (λ none. cc) spelled ns (suc d) true)

pub settled_after : (ns : List Shown) (d : ℕ) → settled (after_at ns d) ≡ after_at ns d
unfolding settled
settled_after ns d = refl

nested_runs : (inner : Fields) → StartsRun inner → (between : List ℕ) → IsSpelling false inner between
    → (ns : List Shown) (d : ℕ) (opened : Bool) (f : ℕ) → IsField f
    → Runs (start_at ns d opened) (number f ++ 123 ∷ between ++ 125 ∷ []) (after_at (ns ++ (Begin f, []) ∷ (nodes_of inner ++ (End, []) ∷ [])) d)
nested_runs inner starts between spelled ns d opened f field =
    let end : TextReading = after_at (ns ++ (Begin f, []) ∷ (nodes_of inner ++ (End, []) ∷ [])) d in
    let P : List ℕ → Type 0 = λ w. run (start_at ns d opened) w ≡ Some end in
    let inside : run (start_at (ns ++ (Begin f, []) ∷ []) (suc d) true) (between ++ 125 ∷ []) ≡ Some end =
    inner_ends inner starts between spelled (ns ++ (Begin f, []) ∷ []) d
    ∙ ap (λ (all : List Shown). Some (after_at all d)) (append_assoc ns ((Begin f, []) ∷ []) (nodes_of inner ++ (End, []) ∷ [])) in
    record {
      stop = end;
      run_is = subst P (sym (append_assoc (number f) (123 ∷ between) (125 ∷ [])))
          (run_joins (number f) (123 ∷ (between ++ 125 ∷ [])) (start_at ns d opened) (reading_with ns d [] (Field f)) (Some end) (field_runs ns d opened f field.0 field.1)
          (run_next 123 (between ++ 125 ∷ []) (reading_with ns d [] (Field f)) (start_at (ns ++ (Begin f, []) ∷ []) (suc d) true) (Some end) (brace_next ns d f) inside));
      settled_is = settled_after (ns ++ (Begin f, []) ∷ (nodes_of inner ++ (End, []) ∷ [])) d;
    }

fields_run : (fields : Fields) → StartsRun fields
fields_run NoFields text some spelled ns d opened = absurd (some refl)
fields_run (NumberField f v others) text some spelled ns d opened =
    let P : List ℕ → Type 0 = λ w. Runs (start_at ns d opened) w (after_at (ns ++ nodes_of (NumberField f v others)) d) in
    let Q : List Shown → Type 0 = λ all. Runs (start_at ns d opened) ((number f ++ 58 ∷ number v) ++ spelled.2) (after_at all d) in
    subst P (sym spelled.3) (subst Q (append_assoc ns ((Number f v, []) ∷ []) (nodes_of others))
    (then_runs (start_at ns d opened) _ _ (number f ++ 58 ∷ number v) spelled.2
    (field_value ns d opened f (number v) _ spelled.0 (number_value ns d f v spelled.1))
    (λ q is. behind_runs others (fields_run others) spelled.2 spelled.4 (ns ++ (Number f v, []) ∷ []) d q is)))
fields_run (BytesField f t k others) text some spelled ns d opened =
    let P : List ℕ → Type 0 = λ w. Runs (start_at ns d opened) w (after_at (ns ++ nodes_of (BytesField f t k others)) d) in
    let Q : List Shown → Type 0 = λ all. Runs (start_at ns d opened) ((number f ++ 58 ∷ spelled.1) ++ spelled.3) (after_at all d) in
    subst P (sym spelled.4) (subst Q (append_assoc ns ((Bytes f k, t) ∷ []) (nodes_of others))
    (then_runs (start_at ns d opened) _ _ (number f ++ 58 ∷ spelled.1) spelled.3
    (field_value ns d opened f spelled.1 _ spelled.0 (bytes_value ns d f k t spelled.1 spelled.2))
    (λ q is. behind_runs others (fields_run others) spelled.3 spelled.5 (ns ++ (Bytes f k, t) ∷ []) d q is)))
fields_run (NestedField f inner others) text some spelled ns d opened =
    let M : List Shown = (Begin f, []) ∷ (nodes_of inner ++ (End, []) ∷ []) in
    let P : List ℕ → Type 0 = λ w. Runs (start_at ns d opened) w (after_at (ns ++ nodes_of (NestedField f inner others)) d) in
    let Q : List Shown → Type 0 = λ all. Runs (start_at ns d opened) ((number f ++ 123 ∷ spelled.1 ++ 125 ∷ []) ++ spelled.3) (after_at all d) in
    let nodes : (ns ++ M) ++ nodes_of others ≡ ns ++ nodes_of (NestedField f inner others) =
    append_assoc ns M (nodes_of others) ∙ ap (λ (all : List Shown). ns ++ (Begin f, []) ∷ all) (append_assoc (nodes_of inner) ((End, []) ∷ []) (nodes_of others)) in
    subst P (sym spelled.4) (subst Q nodes
    (then_runs (start_at ns d opened) _ _ (number f ++ 123 ∷ spelled.1 ++ 125 ∷ []) spelled.3
    (nested_runs inner (fields_run inner) spelled.1 spelled.2 ns d opened f spelled.0)
    (λ q is. behind_runs others (fields_run others) spelled.3 spelled.5 (ns ++ M) d q is)))

pub end_of : (nodes : List Shown) (q : TextReading) → settled q ≡ after_at nodes 0 → finish q ≡ Some nodes
unfolding finish
end_of nodes q is = ap (λ (r : TextReading). ended r) is

pub spelled_accepted : (text : List ℕ) (nodes : List Shown) → Spells text nodes → accepted beginning text ≡ Some nodes
unfolding beginning
spelled_accepted text nodes given =
    let r = fields_run given.fields text given.text_of.some given.text_of.spelled [] 0 false in
    ap (λ (o : Option TextReading). option_and_then finish o) r.run_is ∙ end_of (nodes_of given.fields) r.stop r.settled_is ∙ ap (λ (ns : List Shown). Some ns) (sym given.nodes_are)
