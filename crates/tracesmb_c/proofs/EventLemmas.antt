-- What the calls of an event note, one behind another.
use Rattle.std.proofs.Common.{◌≡◌, ◌∙◌, ℕ, zero, suc, ◌+◌, ◌<◌, Bool, true, false, List, [], ◌∷◌, ◌++◌, length, Option, Some, None}
use Rattle.std.proofs.Common.{Result, Ok, Err, IfOk, OnErr, MatchResult, if◌then◌else◌, append_assoc, append-nil, refl, sym, ap, subst}
use Rattle.std.proofs.Common.{arith}
use Rattle.std.proofs.lemmas.Bool.{eq-eqb, ne_eqb}
use Rattle.trace_model.specs.Calls.{Call, Begun, Number, Bytes, Ended}
use Rattle.trace_writer.specs.declared.fault.Begun.{Begun as BegunPacket}
use Rattle.trace_writer.specs.declared.fault.Begun.TheVariants.{Kept, Dropping}
use Rattle.trace_writer.specs.declared.fault.CallFault.{CallFault}
use Rattle.tracesmb_c.specs.declared.codes.TheConstants.{OK, DROPPING}
use Rattle.tracesmb_c.specs.declared.writer_events.TheConstants.{COUNTER}
use Rattle.tracesmb_c.specs.declared.writer.OwnedWriter.{OwnedWriter}
use Rattle.tracesmb_c.specs.Eventing.{NotesAll, NotesSome, IsRefused, ended_calls, name_calls, value_calls}
use Rattle.tracesmb_c.specs.Lending.{view_of, Notes, NotesField, Stays, noted_begin, begin_answer}
use Rattle.tracesmb_c.proofs.CallLemmas.{if_ok_map}

-- nothing is noted twice over
stays_on : (old mid new : OwnedWriter) (noted : List Call) → Notes old mid noted → Stays mid new → Notes old new noted
stays_on old mid new noted one none = record {
  calls = none.calls ∙ append-nil (view_of mid).calls ∙ one.calls;
  table = none.table ∙ one.table;
  number = none.number ∙ one.number;
}

stays_first : (old mid new : OwnedWriter) (noted : List Call) → Stays old mid → Notes mid new noted → Notes old new noted
stays_first old mid new noted none one = record {
  calls = one.calls ∙ ap (λ (calls : List Call). calls ++ noted) (none.calls ∙ append-nil (view_of old).calls);
  table = one.table ∙ none.table;
  number = one.number ∙ none.number;
}

pub stays_same : (owned : OwnedWriter) → Stays owned owned
stays_same owned = record { calls = sym (append-nil (view_of owned).calls); table = refl; number = refl }

-- one field
pub notes_one : (old new : OwnedWriter) (call : Call) → NotesField old new call → NotesAll old new (call ∷ [])
notes_one old new call one = (new, one, stays_same new)

-- a call that needs no chunk
pub notes_quiet : (old new : OwnedWriter) (call : Call) → Notes old new (call ∷ []) → NotesField old new call
notes_quiet old new call one = (false, one)

stays_all : (old mid new : OwnedWriter) (calls : List Call) → Stays old mid → NotesAll mid new calls → NotesAll old new calls
stays_all old mid new [] none all = stays_on old mid new [] none all
stays_all old mid new (call ∷ calls) none all = (all.0, (all.1.0, stays_first old mid all.0 _ none all.1.1), all.2)

-- some behind others
pub notes_both : (old mid new : OwnedWriter) (calls more : List Call) → NotesAll old mid calls → NotesAll mid new more → NotesAll old new
    (calls ++ more)
notes_both old mid new [] more none all = stays_all old mid new more none all
notes_both old mid new (call ∷ calls) more all others = (all.0, all.1, notes_both all.0 mid new calls more all.2 others)

-- the first one is refused
pub refuses_first : (old new : OwnedWriter) (call : Call) (later : List Call) → Stays old new → IsRefused old call → NotesSome old new
    (call ∷ later)
refuses_first old new call later none refused = record {
  front = [];
  field = call;
  later = later;
  between = old;
  cut = refl;
  noted = stays_same old;
  refused = refused;
  stays = none;
}

-- or one behind others
pub refuses_later : (old mid new : OwnedWriter) (calls more : List Call) → NotesAll old mid calls → NotesSome mid new more
    → NotesSome old new (calls ++ more)
refuses_later old mid new calls more all some = record {
  front = calls ++ some.front;
  field = some.field;
  later = some.later;
  between = some.between;
  cut = ap (λ (cs : List Call). calls ++ cs) some.cut ∙ sym (append_assoc calls some.front (some.field ∷ some.later));
  noted = notes_both old mid some.between calls some.front all some.noted;
  refused = some.refused;
  stays = some.stays;
}

-- or one before others
pub refuses_before : (old new : OwnedWriter) (calls more : List Call) → NotesSome old new calls → NotesSome old new (calls ++ more)
refuses_before old new calls more some = record {
  front = some.front;
  field = some.field;
  later = some.later ++ more;
  between = some.between;
  cut = ap (λ (cs : List Call). cs ++ more) some.cut ∙ append_assoc some.front (some.field ∷ some.later) more;
  noted = some.noted;
  refused = some.refused;
  stays = some.stays;
}

-- one message more ends
pub ended_more : (old mid new : OwnedWriter) (number : ℕ) → NotesAll old mid (ended_calls number) → NotesField mid new Ended
    → NotesAll old new (ended_calls (number + 1))
ended_more old mid new number all one =
    let behind : suc number ≡ number + 1 = omega arith in
    subst (λ (calls : List Call). NotesAll old new calls) (one_more number ∙ ap ended_calls behind)
    (notes_both old mid new (ended_calls number) (Ended ∷ []) all (notes_one mid new Ended one))
  where
    one_more : (n : ℕ) → ended_calls n ++ Ended ∷ [] ≡ ended_calls (suc n)
    one_more zero = refl
    one_more (suc n) = ap (λ (calls : List Call). Ended ∷ calls) (one_more n)

-- ---- by what was answered

pub on_err_map : {A E : Type 0} {P Q : Type 0} (answer : Result A E) → (P → Q) → OnErr answer P → OnErr answer Q
on_err_map (Ok a) f p = tt
on_err_map (Err fault) f p = f p

pub on_err_given : {A E : Type 0} {Q : Type 0} (answer : Result A E) → Q → OnErr answer Q
on_err_given (Ok a) q = tt
on_err_given (Err fault) q = q

-- a field was noted
pub ok_one : (answer : Result (Unit {0}) CallFault) (old new : OwnedWriter) (call : Call) → IfOk answer (λ _. NotesField old new call)
    → IfOk answer (λ _. NotesAll old new (call ∷ []))
ok_one answer old new call noted = if_ok_map answer (notes_one old new call) noted

-- or refused
pub err_one : (answer : Result (Unit {0}) CallFault) (old new : OwnedWriter) (call : Call) (fault_is : Option CallFault) → OnErr answer
    (Stays old new)
    → MatchResult answer (λ _. fault_is ≡ None) (λ fault. fault_is ≡ Some fault) →
    ((fault : CallFault) → fault_is ≡ Some fault → IsRefused old call)
    → OnErr answer (NotesSome old new (call ∷ []))
err_one (Ok done) old new call fault_is none reason refused = tt
err_one (Err fault) old new call fault_is none reason refused = refuses_first old new call [] none (refused fault reason)

-- ---- which fields there are

pub name_none : (name : List ℕ) → length name ≡ 0 → name_calls name ≡ []
name_none [] none = refl
name_none (byte ∷ name) none = absurd (omega (arith, none))

pub name_some : (name : List ℕ) → 0 < length name → name_calls name ≡ Bytes 23 name 1 ∷ []
name_some [] some = absurd (omega (arith, some))
name_some (byte ∷ name) some = refl

pub value_none : (kind value : ℕ) → (kind ≡ COUNTER → ⊥) → value_calls kind value ≡ []
value_none kind value other = ap (λ (b : Bool). if b then Number 30 value ∷ [] else []) (ne_eqb kind COUNTER other)

pub value_some : (kind value : ℕ) → kind ≡ COUNTER → value_calls kind value ≡ Number 30 value ∷ []
value_some kind value is = ap (λ (b : Bool). if b then Number 30 value ∷ [] else []) (eq-eqb kind COUNTER is)

-- ---- how the packet began

pub begun_kept : (old new : OwnedWriter) (begun : BegunPacket) (code : ℕ) → code ≡ begin_answer begun → code ≡ OK → Notes old new
    (noted_begin begun)
    → Notes old new (Begun true ∷ [])
begun_kept old new Kept code is ok noted = noted
begun_kept old new Dropping code is ok noted = let wrong : OK ≡ DROPPING = sym ok ∙ is in absurd (omega (arith, wrong))

pub begun_dropping : (old new : OwnedWriter) (begun : BegunPacket) (code : ℕ) → code ≡ begin_answer begun → code ≡ DROPPING → Notes old new
    (noted_begin begun)
    → Notes old new (Begun false ∷ [])
begun_dropping old new Kept code is dropping noted = let wrong : DROPPING ≡ OK = sym dropping ∙ is in absurd (omega (arith, wrong))
begun_dropping old new Dropping code is dropping noted = noted

-- it was kept or dropped, and nothing else is answered
pub begun_either : (old new : OwnedWriter) (begun : BegunPacket) → Notes old new (noted_begin begun) → (kept : Bool) × Notes old new
    (Begun kept ∷ [])
begun_either old new Kept noted = (true, noted)
begun_either old new Dropping noted = (false, noted)

pub begun_answered : {P : Type 0} (begun : BegunPacket) (code : ℕ) → code ≡ begin_answer begun → (code ≡ OK → ⊥) → (code ≡ DROPPING → ⊥) → P
begun_answered Kept code is ok dropping = absurd (ok is)
begun_answered Dropping code is ok dropping = absurd (dropping is)
