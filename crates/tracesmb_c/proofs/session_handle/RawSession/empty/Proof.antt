-- The code of `empty`: a null pointer beside the allocator, which owns nothing but that.
use mathlib.Core.List.{List, [], ◌∷◌, ◌++◌}
use mathlib.Core.Path.{refl, sym, subst}
use seplogic.Ra.Ura.{Ura}
use mir.Val.{Val, vstruct, vcons, vnil, vnull, has_ty}
use base.Fml.{ftrue, fsep}
use base.Logic.{SProp, ent, emp, id⊢}
use prog.Memory.{Memory}
use prog.Routine.{Routine}
use prog.Wp.{WpFn, Tables}
use types.Logic.{Logic}
use types.Kit.{Item, ‵, raw, ◌⊛◌, ◌$◌, ◌∵◌, !, qed, by, move, drop, use1, join, split, fsplit, fjoin, fpack, feq_i, suffices, done}
use types.Part.{agg}
use types.Run.{no_more, and_then, lit, returns, enter}
use types.ByLocal.{alloc_all, pass_all, free_all, look_at, get, sets}
use contract.Monad.{Fun}
use contract.Running.{tables, tables_of}
use sound.WpLaws.{WpFn-mono}
use denote.Exit.{yes}
use denote.RattleType.{Valss}
use denote.RawPtr.{null_ptr}
use denote.Steps.{nothing}
use denote.Struct.Owning.{shape, to}
use denote.Struct.Struct.{within}
use denote.Triple.Spec.{triple_of}
use denote.Triple.Table.{entered}
use denote.Triple.Walked.{says, Stays, stay_dropped, walk_of, ends_at, Goes-dropped, walk_Meets}
use Rattle.std.proofs.Common.{lit<}
use Rattle.std.specs.Prelude.{None}
use Rattle.std.proofs.alloc.Calls.{α, handle_tells}
use Rattle.std.proofs.ResultValues.{and_tt}
use Rattle.tracesmb_c.proofs.SessionBox.{E, TheHeap}
use Rattle.tracesmb_c.specs.contracts.session_handle.RawSession as Raw
use Rattle.tracesmb_c.specs.contracts.session_handle.RawSession.empty as promise
use Rattle.tracesmb_c.specs.contracts.session_handle.RawSession.empty.Key.{name as #self}
use Rattle.tracesmb_c.proofs.session_handle.RawSession.empty.Statement.{statement}
use Rattle.tracesmb_c.proofs.session_handle.RawSession.empty.Code as code

abbrev stays : Stays (promise.ended).signature.params (promise.ended).kept
stays = (stay_dropped TheHeap yes, tt)

module _ {M : Type 1} {𝓤 : Ura M} (𝓛 : Logic 𝓤) (at_mem : Memory → SProp 𝓤) (run : Routine → Fun 𝓤) (𝓣 : Tables 𝓤 𝓛.H) where
  open 𝓛 use {H}

  steps : (z : (walk_of 𝓛 promise.ended stays (promise.clauses 𝓛 at_mem run)).Ghost)
      → ent 𝓤 ((walk_of 𝓛 promise.ended stays (promise.clauses 𝓛 at_mem run)).pre z)
      (WpFn 𝓤 H 𝓣.C 𝓣.Λ code.function (z.0.4.0 ++ []) ((walk_of 𝓛 promise.ended stays (promise.clauses 𝓛 at_mem run)).post z))
  steps z =
      let after = (walk_of 𝓛 promise.ended stays (promise.clauses 𝓛 at_mem run)).post z in
      let nothing_there : (Raw.the_row).Denot = record { at = null_ptr; alloc = z.0.3.0; value = None } in
      qed 𝓛 ((‵ ftrue ⊛ ‵ (fsep ((E.al.row).own_val z.0.3.0 z.0.4.0) ftrue)) ∷ raw (emp 𝓤) ∷ []) ∵ split ! $ drop ! $ fsplit ! $
      handle_tells E.al ! z.0.3.0 z.0.4.0 (λ handle is_handle fits. move ! (1 ∷ 2 ∷ []) $ drop ! $ drop ! $
      let pair : Val = vstruct (vcons vnull (vcons handle vnil)) in
      let owned : List (Item 𝓤) = ‵ (E.al.row.own_val z.0.3.0 (handle ∷ [])) ∷ [] in
      by ! (subst (λ (us : List Val). ent 𝓤 (types.Kit.⋆ 𝓛 owned) (WpFn 𝓤 H 𝓣.C 𝓣.Λ code.function (us ++ []) after)) (sym is_handle)
      (qed 𝓛 owned ∵ enter ! 𝓣.C 𝓣.Λ code.function (handle ∷ []) _ $ alloc_all ! (λ locals. pass_all ! refl (fits, tt) $
      sets ! (agg ! (and_then ! (lit ! tt) (and_then ! (get ! refl) (no_more !)))) refl
      (and_tt (has_ty (α E.al) handle) fits.0, (record { fits = lit< tt }, (fits.1, tt))) $ returns !
      (look_at ! 0 refl) $ free_all ! refl $
      nothing ! $ nothing ! $ move ! (2 ∷ 0 ∷ []) $ fjoin ! $ feq_i ! (List Val) (vnull ∷ []) (vnull ∷ []) refl $ fjoin ! $
      feq_i ! (List Val) (pair ∷ []) (pair ∷ []) refl $ fjoin ! $
      fpack ! (Valss (shape Raw.the_type).fields) (within (shape Raw.the_type) (to Raw.the_type nothing_there) (pair ∷ []))
      (vnull ∷ [], (handle ∷ [], tt)) $
      fjoin ! $ use1 𝓛 (‵ ((Raw.the_row).own_val nothing_there (pair ∷ []))) (id⊢ 𝓤 _) $
      suffices ! _ (ends_at 𝓛 promise.ended stays (promise.clauses 𝓛 at_mem run) z pair nothing_there (tt, tt) (tt, tt)) $ says ! refl $
      nothing ! $ nothing ! $ fjoin ! $ join ! $ nothing ! $ join ! $ done !))))

pub empty_spec : {M : Type 1} → statement M
unfolding tables_of
empty_spec 𝓤 𝓛 𝓜 𝓡 wired =
    let 𝓣 : Tables 𝓤 𝓛.H = tables_of 𝓤 𝓛.H 𝓜 (tables 𝓤 𝓛.H 𝓜 𝓡 𝓡.env) in
    entered 𝓤 𝓛.H (triple_of 𝓛 promise.signature (promise.spec 𝓛 𝓜.mem 𝓡.returns)) 𝓣.C 𝓣.Λ #self code.function
    (code.unfolded 𝓤 𝓛.H 𝓜 𝓡 wired)
    (walk_Meets 𝓛 promise.ended stays (Goes-dropped 𝓛 0 TheHeap yes (λ κs x f. refl), tt) (promise.clauses 𝓛 𝓜.mem 𝓡.returns)
    (WpFn 𝓤 𝓛.H 𝓣.C 𝓣.Λ code.function) (WpFn-mono 𝓤 𝓛.H 𝓛.laws 𝓣 code.function)
    (steps 𝓛 𝓜.mem 𝓡.returns 𝓣))
