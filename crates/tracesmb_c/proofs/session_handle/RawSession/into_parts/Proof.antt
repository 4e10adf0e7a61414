-- The code of `into_parts`: of a handle that has a session it moves both fields, and what they own goes with them. There is no other one.
use mathlib.Core.Bool.{true, false}
use mathlib.Core.List.{List, [], ◌∷◌, ◌++◌}
use mathlib.Core.Path.{◌≡◌, refl, sym, subst}
use lib.Dec.{T}
use seplogic.Ra.Ura.{Ura}
use mir.Val.{Val}
use base.Fml.{ftrue, fsep}
use base.Logic.{SProp, ent, id⊢}
use prog.Memory.{Memory}
use prog.Routine.{Routine}
use prog.Wp.{WpFn, Tables}
use types.Logic.{Logic}
use types.Kit.{Item, ‵, raw, ◌⊛◌, ◌$◌, ◌∵◌, !, qed, by, move, drop, use1, join, split, fsplit, fjoin, suffices, done}
use types.Part.{whole, sub, agg}
use types.Run.{stop, fld, no_more, and_then, of_opd, returns, enter}
use types.ByLocal.{alloc_all, pass_all, free_all, look_at, get, get_in, sets}
use contract.Monad.{Fun, fact}
use contract.Running.{tables, tables_of}
use sound.WpLaws.{WpFn-mono}
use denote.Exit.{yes}
use denote.RawPtr.{Ptr}
use denote.Signature.{type_at}
use denote.Steps.{nothing, heard}
use denote.Triple.Spec.{triple_of}
use denote.Triple.Table.{entered}
use denote.Triple.Walked.{says, Stays, stay_dropped, walk_of, ends_at, Goes-dropped, walk_Meets}
use Rattle.std.specs.Prelude.{Option, Some, None}
use Rattle.std.specs.Global.{Global}
use Rattle.std.proofs.BoxSteps.Form.{X, D, B, word, box_typed}
use Rattle.std.proofs.BoxSteps.Steps.{box_out, box_in}
use Rattle.tracesmb_c.proofs.SessionBox.{E, TheRaw}
use Rattle.tracesmb_c.specs.contracts.session_handle.RawSession as Raw
use Rattle.tracesmb_c.specs.contracts.session_handle.RawSession.into_parts as promise
use Rattle.tracesmb_c.specs.contracts.session_handle.RawSession.into_parts.Key.{name as #self}
use Rattle.tracesmb_c.proofs.session_handle.RawSession.into_parts.Statement.{statement}
use Rattle.tracesmb_c.proofs.session_handle.RawSession.into_parts.Code as code

abbrev stays : Stays (promise.ended).signature.params (promise.ended).kept
stays = (stay_dropped TheRaw yes, tt)

module _ {M : Type 1} {𝓤 : Ura M} (𝓛 : Logic 𝓤) (at_mem : Memory → SProp 𝓤) (run : Routine → Fun 𝓤) (𝓣 : Tables 𝓤 𝓛.H) where
  open 𝓛 use {H}

  -- what is given and asked of a handle
  abbrev Given : Type 0
  Given = (walk_of 𝓛 promise.ended stays (promise.clauses 𝓛 at_mem run)).Ghost

  abbrev given : Ptr → Global → Option (X E) → List Val → Given
  given at alloc value vals = ((tt, tt, tt, (record { at = at; alloc = alloc; value = value }, tt), (vals, tt)), tt)

  steps : (at : Ptr) (alloc : Global) (value : Option (X E)) (vals : List Val)
      → ent 𝓤 ((walk_of 𝓛 promise.ended stays (promise.clauses 𝓛 at_mem run)).pre (given at alloc value vals))
      (WpFn 𝓤 H 𝓣.C 𝓣.Λ code.function (vals ++ [])
      ((walk_of 𝓛 promise.ended stays (promise.clauses 𝓛 at_mem run)).post (given at alloc value vals)))
  steps at alloc None vals =
      qed 𝓛 ((‵ ftrue ⊛ ‵ (fsep ((Raw.the_row).own_val (record { at = at; alloc = alloc; value = None }) vals) ftrue)) ∷ raw
      (fact 𝓤 (false ≡ true)) ∷ []) ∵
      move ! (1 ∷ []) $ heard ! (false ≡ true) (λ wrong. by ! (absurd (subst T (sym wrong) tt)))
  steps at alloc (Some value) vals =
      let z = given at alloc (Some value) vals in
      let after = (walk_of 𝓛 promise.ended stays (promise.clauses 𝓛 at_mem run)).post z in
      let box : D E = record { ptr = at; alloc = alloc; value = value } in
      let Result = type_at (promise.signature).result tt in
      let parts : Result.Denot = record { ptr = at; alloc = alloc; value = value } in
      qed 𝓛 ((‵ ftrue ⊛ ‵ (fsep ((B E).own_val box vals) ftrue)) ∷ raw (fact 𝓤 (true ≡ true)) ∷ []) ∵ move !
      (1 ∷ []) $ drop ! $ split ! $ drop ! $ fsplit ! $
      box_out E ! box vals (λ block offset handle is_there is_pair typed. box_in E ! box block offset value is_there refl $
      use1 𝓛 (‵ (Result.own_val parts (word E handle block offset ∷ []))) (id⊢ 𝓤 _) $ move ! (1 ∷ []) $ drop ! $
      let pair = word E handle block offset in
      let owned : List (Item 𝓤) = ‵ (Result.own_val parts (pair ∷ [])) ∷ [] in
      by ! (subst (λ (us : List Val). ent 𝓤 (types.Kit.⋆ 𝓛 owned) (WpFn 𝓤 H 𝓣.C 𝓣.Λ code.function (us ++ []) after)) (sym is_pair)
      (qed 𝓛 owned ∵ enter ! 𝓣.C 𝓣.Λ code.function (pair ∷ []) _ $ alloc_all !
      (λ locals. pass_all ! refl (box_typed E handle block offset typed, tt) $
      sets ! (of_opd ! (get_in ! (fld ! refl (stop !)) (sub ! 0 refl (whole !)))) refl (tt, tt) $
      sets ! (of_opd ! (get_in ! (fld ! refl (stop !)) (sub ! 1 refl (whole !)))) refl typed $
      -- the cast
      sets ! (of_opd ! (get ! refl)) refl (tt, tt) $
      sets ! (agg ! (and_then ! (get ! refl) (and_then ! (get ! refl) (no_more !)))) refl (box_typed E handle block offset typed) $
      returns ! (look_at ! 0 refl) $ free_all ! refl $
      suffices ! _ (ends_at 𝓛 promise.ended stays (promise.clauses 𝓛 at_mem run) z pair parts (tt, tt) (tt, tt)) $ says ! refl $
      nothing ! $ nothing ! $ fjoin ! $ join ! $ nothing ! $ join ! $ done !))))

pub into_parts_spec : {M : Type 1} → statement M
unfolding tables_of
into_parts_spec 𝓤 𝓛 𝓜 𝓡 wired =
    let 𝓣 : Tables 𝓤 𝓛.H = tables_of 𝓤 𝓛.H 𝓜 (tables 𝓤 𝓛.H 𝓜 𝓡 𝓡.env) in
    entered 𝓤 𝓛.H (triple_of 𝓛 promise.signature (promise.spec 𝓛 𝓜.mem 𝓡.returns)) 𝓣.C 𝓣.Λ #self code.function
    (code.unfolded 𝓤 𝓛.H 𝓜 𝓡 wired)
    (walk_Meets 𝓛 promise.ended stays (Goes-dropped 𝓛 0 TheRaw yes (λ κs x f. refl), tt) (promise.clauses 𝓛 𝓜.mem 𝓡.returns)
    (WpFn 𝓤 𝓛.H 𝓣.C 𝓣.Λ code.function) (WpFn-mono 𝓤 𝓛.H 𝓛.laws 𝓣 code.function)
    (λ z. steps 𝓛 𝓜.mem 𝓡.returns 𝓣 z.0.3.0.at z.0.3.0.alloc z.0.3.0.value z.0.4.0))
