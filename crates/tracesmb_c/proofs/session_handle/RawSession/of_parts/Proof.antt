-- The code of `of_parts`: it moves both fields, and what they own goes with them.
use mathlib.Core.List.{List, [], ◌∷◌, ◌++◌}
use mathlib.Core.Path.{refl, sym, subst}
use seplogic.Ra.Ura.{Ura}
use mir.Val.{Val}
use base.Fml.{ftrue, fsep}
use base.Logic.{SProp, ent, emp, id⊢}
use prog.Memory.{Memory}
use prog.Routine.{Routine}
use prog.Wp.{WpFn, Tables}
use types.Logic.{Logic}
use types.Kit.{Item, ‵, raw, ◌⊛◌, ◌$◌, ◌∵◌, !, qed, by, move, drop, use1, join, split, fsplit, fjoin, suffices, done}
use types.Part.{whole, sub, agg}
use types.Run.{stop, fld, no_more, and_then, of_opd, returns, enter}
use types.ByLocal.{alloc_all, pass_all, free_all, look_at, get, get_in, sets}
use contract.Monad.{Fun}
use contract.Running.{tables, tables_of}
use sound.WpLaws.{WpFn-mono}
use denote.Exit.{yes}
use denote.Signature.{type_at}
use denote.Steps.{nothing}
use denote.Triple.Spec.{triple_of}
use denote.Triple.Table.{entered}
use denote.Triple.Walked.{says, Stays, stay_dropped, walk_of, ends_at, Goes-dropped, walk_Meets}
use Rattle.std.specs.Prelude.{Some}
use Rattle.std.proofs.BoxSteps.Form.{D, B, word, box_typed}
use Rattle.std.proofs.BoxSteps.Steps.{box_out, box_in}
use Rattle.tracesmb_c.proofs.SessionBox.{E, TheParts}
use Rattle.tracesmb_c.specs.contracts.session_handle.RawSession.of_parts as promise
use Rattle.tracesmb_c.specs.contracts.session_handle.RawSession.of_parts.Key.{name as #self}
use Rattle.tracesmb_c.proofs.session_handle.RawSession.of_parts.Statement.{statement}
use Rattle.tracesmb_c.proofs.session_handle.RawSession.of_parts.Code as code

abbrev stays : Stays (promise.ended).signature.params (promise.ended).kept
stays = (stay_dropped TheParts yes, tt)

module _ {M : Type 1} {𝓤 : Ura M} (𝓛 : Logic 𝓤) (at_mem : Memory → SProp 𝓤) (run : Routine → Fun 𝓤) (𝓣 : Tables 𝓤 𝓛.H) where
  open 𝓛 use {H}

  steps : (z : (walk_of 𝓛 promise.ended stays (promise.clauses 𝓛 at_mem run)).Ghost)
      → ent 𝓤 ((walk_of 𝓛 promise.ended stays (promise.clauses 𝓛 at_mem run)).pre z)
      (WpFn 𝓤 H 𝓣.C 𝓣.Λ code.function (z.0.4.0 ++ []) ((walk_of 𝓛 promise.ended stays (promise.clauses 𝓛 at_mem run)).post z))
  steps z =
      let after = (walk_of 𝓛 promise.ended stays (promise.clauses 𝓛 at_mem run)).post z in
      let box : D E = record { ptr = z.0.3.0.ptr; alloc = z.0.3.0.alloc; value = z.0.3.0.value } in
      let Result = type_at (promise.signature).result tt in
      let raw_session : Result.Denot = record { at = box.ptr; alloc = box.alloc; value = Some box.value } in
      qed 𝓛 ((‵ ftrue ⊛ ‵ (fsep ((B E).own_val box z.0.4.0) ftrue)) ∷ raw (emp 𝓤) ∷ []) ∵ split ! $ drop ! $ fsplit ! $
      box_out E ! box z.0.4.0 (λ block offset handle is_there vals typed. box_in E ! box block offset box.value is_there refl $
      use1 𝓛 (‵ (Result.own_val raw_session (word E handle block offset ∷ []))) (id⊢ 𝓤 _) $ move ! (1 ∷ 2 ∷ []) $ drop ! $ drop ! $
      let pair = word E handle block offset in
      let owned : List (Item 𝓤) = ‵ (Result.own_val raw_session (pair ∷ [])) ∷ [] in
      by ! (subst (λ (given : List Val). ent 𝓤 (types.Kit.⋆ 𝓛 owned) (WpFn 𝓤 H 𝓣.C 𝓣.Λ code.function (given ++ []) after)) (sym vals)
      (qed 𝓛 owned ∵ enter ! 𝓣.C 𝓣.Λ code.function (pair ∷ []) _ $ alloc_all !
      (λ locals. pass_all ! refl (box_typed E handle block offset typed, tt) $
      sets ! (of_opd ! (get_in ! (fld ! refl (stop !)) (sub ! 0 refl (whole !)))) refl (tt, tt) $
      sets ! (of_opd ! (get_in ! (fld ! refl (stop !)) (sub ! 1 refl (whole !)))) refl typed $
      -- the cast
      sets ! (of_opd ! (get ! refl)) refl (tt, tt) $
      sets ! (agg ! (and_then ! (get ! refl) (and_then ! (get ! refl) (no_more !)))) refl (box_typed E handle block offset typed) $
      returns ! (look_at ! 0 refl) $ free_all ! refl $
      suffices ! _ (ends_at 𝓛 promise.ended stays (promise.clauses 𝓛 at_mem run) z pair raw_session (tt, tt) (tt, tt)) $ says ! refl $
      nothing ! $ nothing ! $ fjoin ! $ join ! $ nothing ! $ join ! $ done !))))

pub of_parts_spec : {M : Type 1} → statement M
unfolding tables_of
of_parts_spec 𝓤 𝓛 𝓜 𝓡 wired =
    let 𝓣 : Tables 𝓤 𝓛.H = tables_of 𝓤 𝓛.H 𝓜 (tables 𝓤 𝓛.H 𝓜 𝓡 𝓡.env) in
    entered 𝓤 𝓛.H (triple_of 𝓛 promise.signature (promise.spec 𝓛 𝓜.mem 𝓡.returns)) 𝓣.C 𝓣.Λ #self code.function
    (code.unfolded 𝓤 𝓛.H 𝓜 𝓡 wired)
    (walk_Meets 𝓛 promise.ended stays (Goes-dropped 𝓛 0 TheParts yes (λ κs x f. refl), tt) (promise.clauses 𝓛 𝓜.mem 𝓡.returns)
    (WpFn 𝓤 𝓛.H 𝓣.C 𝓣.Λ code.function) (WpFn-mono 𝓤 𝓛.H 𝓛.laws 𝓣 code.function)
    (steps 𝓛 𝓜.mem 𝓡.returns 𝓣))
