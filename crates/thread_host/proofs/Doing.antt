-- What was asked of a writer, by what it noted call by call.
use Rattle.std.proofs.Common.{◌≡◌, ◌∙◌, Bool, true, false, List, [], ◌∷◌, ◌++◌, refl, sym, ap}
use Rattle.std.proofs.lemmas.Bool.{true≢false}
use Rattle.trace_base.specs.declared.policy.WriterPolicy.{WriterPolicy}
use Rattle.trace_base.specs.declared.policy.WriterPolicy.TheVariants.{Drops, Stalls, StallsThenDrops}
use Rattle.trace_model.specs.Calls.{Call, Begun, Number, Bytes, Nested, Ended, GivenUp, Finished, Flushed}
use Rattle.trace_model.specs.Packets.{Packet}
use Rattle.trace_writer.specs.Asked.{begun_as, noted_as}
use Rattle.trace_writer.specs.Helping.{loses}
use Rattle.scenario_text.specs.Accepted.{Accepts}
use Rattle.run_model.specs.Noted.{done_calls}

done_append : (xs ys : List Call) → done_calls (xs ++ ys) ≡ done_calls xs ++ done_calls ys
done_append [] ys = refl
done_append (Begun kept ∷ xs) ys = ap (λ (cs : List Call). Begun true ∷ cs) (done_append xs ys)
done_append (GivenUp ∷ xs) ys = done_append xs ys
done_append (Number field value ∷ xs) ys = ap (λ (cs : List Call). Number field value ∷ cs) (done_append xs ys)
done_append (Bytes field text times ∷ xs) ys = ap (λ (cs : List Call). Bytes field text times ∷ cs) (done_append xs ys)
done_append (Nested field ∷ xs) ys = ap (λ (cs : List Call). Nested field ∷ cs) (done_append xs ys)
done_append (Ended ∷ xs) ys = ap (λ (cs : List Call). Ended ∷ cs) (done_append xs ys)
done_append (Finished ∷ xs) ys = ap (λ (cs : List Call). Finished ∷ cs) (done_append xs ys)
done_append (Flushed ∷ xs) ys = ap (λ (cs : List Call). Flushed ∷ cs) (done_append xs ys)

-- behind what was done before, a call is done
pub done_more : (asked old new : List Call) (call : Call) (noted : List Call) → done_calls old ≡ asked
    → new ≡ old ++ noted → done_calls noted ≡ call ∷ [] → done_calls new ≡ asked ++ call ∷ []
done_more asked old new call noted before notes is =
    ap done_calls notes ∙ done_append old noted ∙ ap (λ (cs : List Call). cs ++ done_calls noted) before
    ∙ ap (λ (cs : List Call). asked ++ cs) is

begun_done : (stopped : Bool) (policy : WriterPolicy) → (stopped ≡ true → loses policy ≡ true) → done_calls (begun_as stopped policy) ≡ Begun true ∷ []
begun_done false policy only = refl
begun_done true Drops only = refl
begun_done true Stalls only = absurd (true≢false (sym (only refl)))
begun_done true (StallsThenDrops tries) only = refl

-- what is noted of a call says just this call
pub call_done : (packets : List Packet) (stopped : Bool) (policy : WriterPolicy) (call : Call) → Accepts packets call → (stopped ≡ true → loses policy ≡ true)
    → done_calls (noted_as stopped policy call) ≡ call ∷ []
call_done packets stopped policy (Begun kept) accepts only =
    begun_done stopped policy only ∙ ap (λ (k : Bool). Begun k ∷ []) (sym accepts.0)
call_done packets stopped policy GivenUp accepts only = absurd accepts
call_done packets false policy (Number field value) accepts only = refl
call_done packets true Drops (Number field value) accepts only = refl
call_done packets true Stalls (Number field value) accepts only = refl
call_done packets true (StallsThenDrops tries) (Number field value) accepts only = refl
call_done packets false policy (Bytes field text times) accepts only = refl
call_done packets true Drops (Bytes field text times) accepts only = refl
call_done packets true Stalls (Bytes field text times) accepts only = refl
call_done packets true (StallsThenDrops tries) (Bytes field text times) accepts only = refl
call_done packets false policy (Nested field) accepts only = refl
call_done packets true Drops (Nested field) accepts only = refl
call_done packets true Stalls (Nested field) accepts only = refl
call_done packets true (StallsThenDrops tries) (Nested field) accepts only = refl
call_done packets false policy Ended accepts only = refl
call_done packets true Drops Ended accepts only = refl
call_done packets true Stalls Ended accepts only = refl
call_done packets true (StallsThenDrops tries) Ended accepts only = refl
call_done packets false policy Finished accepts only = refl
call_done packets true Drops Finished accepts only = refl
call_done packets true Stalls Finished accepts only = refl
call_done packets true (StallsThenDrops tries) Finished accepts only = refl
call_done packets false policy Flushed accepts only = refl
call_done packets true Drops Flushed accepts only = refl
call_done packets true Stalls Flushed accepts only = refl
call_done packets true (StallsThenDrops tries) Flushed accepts only = refl
