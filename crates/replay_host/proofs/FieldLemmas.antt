-- The nodes of a packet, one by one.
use Rattle.std.proofs.Common.{◌≡◌, ◌∙◌, ℕ, Result, Ok, Err, List, [], ◌∷◌, ◌++◌, length, map, sym, ap, subst, arith, append_assoc}
use Rattle.std.specs.Prelude.{OnOk, IfErr}
use Rattle.std.proofs.Math.Nat.{mul-le-mul_right}
use Rattle.std.proofs.lemmas.List.{map-append}
use Rattle.trace_model.specs.Packets.{Packet}
use Rattle.field_tree.specs.declared.node.FieldNode.{FieldNode}
use Rattle.field_tree.specs.declared.node.FieldNode.TheVariants.{Number, Bytes, Begin, End}
use Rattle.field_tree.specs.Nodes.{Shown, IsFit}
use Rattle.scenario_text.specs.Accepted.{Accepts, node_call}
use Rattle.replay_host.specs.Asking.{IsShortCall}

-- what follows from a fact on an answer
pub on_ok_map : {A E : Type 0} (answer : Result A E) (P Q : Type 0) → OnOk answer P → (P → Q) → OnOk answer Q
on_ok_map (Ok x) P Q holds more = more holds
on_ok_map (Err e) P Q holds more = tt

pub if_err_map : {A E : Type 0} (answer : Result A E) (P Q : E → Type 0) → IfErr answer P → ((e : E) → P e → Q e) → IfErr answer Q
if_err_map (Ok x) P Q holds more = tt
if_err_map (Err e) P Q holds more = more e holds

-- what holds of the answer that it is
pub if_err_is : {A E : Type 0} (answer : Result A E) (fault : E) (P : E → Type 0) → answer ≡ Err fault → P fault → IfErr answer P
if_err_is {A} {E} answer fault P is holds = subst (λ (r : Result A E). IfErr r P) (sym is) holds

-- the calls of the nodes up to this one
pub calls_before : (before : List Shown) (one : Shown) → map node_call (before ++ one ∷ []) ≡ map node_call before ++ node_call one ∷ []
calls_before before one = map-append node_call before (one ∷ [])

-- all calls, where one of them stands among them
pub calls_all : (fields before others : List Shown) (one : Shown) → fields ≡ before ++ one ∷ others
    → map node_call fields ≡ (map node_call before ++ node_call one ∷ []) ++ map node_call others
calls_all fields before others one whole =
    ap (map node_call) whole
    ∙ map-append node_call before (one ∷ others)
    ∙ sym (append_assoc (map node_call before) (node_call one ∷ []) (map node_call others))

-- a text that a packet has room for is short
pub short_is : (packets : List Packet) (node : FieldNode) (text : List ℕ) → IsFit node → Accepts packets (node_call (node, text)) → IsShortCall (node_call (node, text))
unfolding node_call
short_is packets (Number field value) text fit accepts = tt
short_is packets (Bytes field times) text fit accepts =
    let more = mul-le-mul_right {m = 1} {n = times} (length text) fit.1 in
    let short = accepts.short in
    omega (arith, more, short)
short_is packets (Begin field) text fit accepts = tt
short_is packets End text fit accepts = tt
