-- The code of `of`: it calls `into_raw_with_allocator`, and puts the pair that comes back into the two fields.
use mathlib.Core.List.{List, [], ◌∷◌, ◌++◌}
use mathlib.Core.Path.{◌≡◌, refl, sym, subst, ap, ◌∙◌}
use seplogic.Ra.Ura.{Ura}
use mir.MapTy.{inst_fn}
use mir.Raw.{raw as bare}
use mir.Syntax.{Fn, Args, Dict, a_type, dcons, dnil}
use mir.Val.{Val, vstruct, of_list}
use base.Fml.{ftrue, fsep, flft}
use base.Logic.{SProp, ent, id⊢, never, fst∗}
use prog.Memory.{Memory}
use prog.Routine.{Routine}
use prog.Wp.{WpFn, Tables}
use types.Logic.{Logic, sem}
use types.Kit.{Item, ‵, raw, ◌⊛◌, some, later, ◌$◌, ◌∵◌, !, qed, by, move, drop, use1, join, split, split3, pick, rewrite, fsplit, fjoin}
use types.Kit.{fpick, feq_l, suffices, await, done}
use types.Part.{whole, sub, agg}
use types.Run.{stop, fld, no_more, and_then, of_opd, returns, enter}
use types.ByLocal.{alloc_all, pass_all, free_all, look_at, get, get_in, sets, lands_as}
use contract.BorrowLft.{◌⊑◌}
use contract.Monad.{Fun, fact}
use contract.Running.{tables, tables_of}
use sound.WpLaws.{fm_of, WpFn-mono}
use denote.Exit.{no}
use denote.Param.{bounded}
use denote.RattleType.{RattleType}
use denote.RawPtr.{Ptr, RawPtr, block_ptr, null_ptr, ptr_val, in_a_block}
use denote.Signature.{plain}
use denote.Steps.{heard, nothing, only}
use denote.Struct.Tuple.{Tuple}
use denote.Triple.Call.{calls_at}
use denote.Triple.Clauses.{Ended, Clauses}
use denote.Triple.Spec.{triple_of}
use denote.Triple.Statement.{Triple, Contract}
use denote.Triple.Table.{entered}
use denote.Triple.Walked.{says, Stays, stay_dropped, walk_of, ends_at, walk_Meets}
use Rattle.std.proofs.alloc.Calls.{token, handle_tells, Goes-blank}
use Rattle.std.specs.Box.Ownership.{box_owns}
use Rattle.std.proofs.BoxSteps.Form.{Bx, D, τ, R, P, B, word, box_typed}
use Rattle.std.proofs.BoxSteps.Steps.{box_out, box_in}
use Rattle.std.specs.contracts.boxed.Box.into_raw_with_allocator as opened
use Rattle.std.proofs.boxed.Box.into_raw_with_allocator.Met.{met}
use Rattle.std.proofs.boxed.Box.into_raw_with_allocator.Symbol as opened_by
use Rattle.box_parts.specs.contracts.Parts as Parts
use Rattle.box_parts.specs.contracts.Parts.of as promise
use Rattle.box_parts.specs.contracts.Parts.of.Key.{name as #self}
use Rattle.box_parts.proofs.Parts.of.Statement.{statement}
use Rattle.box_parts.proofs.Parts.of.Code as code

module _ (E : Bx) (value_drops : Dict) where
  abbrev dicts : Args
  dicts = bounded (a_type ∷ a_type ∷ []) (E.row, (E.al.row, tt)) (dcons E.al.d (dcons E.al.drops (dcons value_drops dnil)))

  abbrev own_code : Fn
  own_code = inst_fn dicts code.function

  abbrev ended : Ended
  ended = promise.ended E.row E.al.row E.al.g E.al.d E.al.drops value_drops

  abbrev stays : Stays ended.signature.params ended.kept
  stays = (stay_dropped (plain (λ _. B E)) no, tt)

  abbrev ThePart : RattleType
  ThePart = Parts.the_row (R E) (P E) E.al.g

  module _ {M : Type 1} {𝓤 : Ura M} (𝓛 : Logic 𝓤) (at_mem : Memory → SProp 𝓤) (run : Routine → Fun 𝓤) (𝓣 : Tables 𝓤 𝓛.H) where
    open 𝓛 use {H}

    abbrev clauses : Clauses 𝓤 ended
    clauses = promise.clauses E.row E.al.row E.al.g E.al.d E.al.drops value_drops 𝓛 at_mem run

    abbrev Opens : Contract 𝓤
    Opens = triple_of 𝓛 (opened.signature E.row E.al.row E.al.g E.al.d E.al.drops value_drops)
        (opened.spec E.row E.al.row E.al.g E.al.d E.al.drops value_drops 𝓛 at_mem run)

    steps : Triple 𝓤 (𝓣.C (opened_by.name dicts)) Opens → (z : (walk_of 𝓛 ended stays clauses).Ghost)
        → ent 𝓤 ((walk_of 𝓛 ended stays clauses).pre z) (WpFn 𝓤 H 𝓣.C 𝓣.Λ own_code (z.0.4.0 ++ []) ((walk_of 𝓛 ended stays clauses).post z))
    steps is_opened z =
        let κs = z.0.0 in let shares = z.0.1 in let box = z.0.3.0 in let after = (walk_of 𝓛 ended stays clauses).post z in
        let tokens : Item 𝓤 = ‵ (flft κs.0 shares.0) ⊛ ‵ (flft κs.1.0 shares.1.0) ⊛ ‵ ftrue in
        let bounds : Item 𝓤 = raw (fact 𝓤 (κs.0 ⊑ E.row.lives)) ⊛ raw (fact 𝓤 (κs.1.0 ⊑ E.al.row.lives)) ⊛ ‵ ftrue in
        qed 𝓛 ((tokens ⊛ ‵ (fsep ((B E).own_val box z.0.4.0) ftrue)) ∷ bounds ∷ []) ∵ split ! $ move ! (1 ∷ []) $ fsplit ! $
        box_out E ! box z.0.4.0 (λ block offset handle is_there vals typed. box_in E ! box block offset box.value is_there refl $
        let pair = word E handle block offset in
        let asked : Opens.Ghost = ((κs, shares, tt, (box, tt), (pair ∷ [], tt)), tt) in
        let owned : List (Item 𝓤) = ‵ ((B E).own_val box (pair ∷ [])) ∷ ‵ ftrue ∷ tokens ∷ bounds ∷ [] in
        by ! (subst (λ (given : List Val). ent 𝓤 (types.Kit.⋆ 𝓛 owned) (WpFn 𝓤 H 𝓣.C 𝓣.Λ own_code (given ++ []) after)) (sym vals)
        (qed 𝓛 owned ∵ enter ! 𝓣.C 𝓣.Λ own_code (pair ∷ []) _ $
        alloc_all ! (λ locals. pass_all ! refl (box_typed E handle block offset typed, tt) $
        sets ! (of_opd ! (get ! refl)) refl (box_typed E handle block offset typed) $
        fjoin ! $ move ! (1 ∷ 0 ∷ []) $ join ! $ join ! $ use1 𝓛 (raw (Opens.pre asked)) (id⊢ 𝓤 _) $
        calls_at ! (fm_of 𝓤 H 𝓛.laws 𝓣) Opens is_opened asked (and_then ! (get ! refl) (no_more !)) (λ answer.
        use1 𝓛 (later (some (λ (r : Ptr × E.al.row.Denot). (tokens ⊛ ‵ ((Tuple (RawPtr ∷ P E ∷ [])).own_val r (answer ∷ [])))
        ⊛ some (λ (_ : (Unit {0} × (Unit {0} × Unit {0})) × Unit {0}). ‵ (fsep (fsep ftrue (fsep ftrue ftrue)) ftrue)
        ⊛ (raw (fact 𝓤 (r.1 ≡ box.alloc)) ⊛ ‵ (box_owns (token E.al box.alloc) (R E) r.0 box.value)))))) (id⊢ 𝓤 _) $
        await ! tt $ pick ! (λ r. split ! $ move ! (1 ∷ []) $ pick ! (λ _. split3 ! $ drop ! $ heard ! (r.1 ≡ box.alloc) (λ is_alloc.
        -- the pointer is one into a block, since something lies there
        in_a_block ! r.0 (λ at. box_owns (token E.al box.alloc) (R E) at box.value)
        (fst∗ 𝓤 (never 𝓤) (sem 𝓛 (token E.al box.alloc (bare (τ E)) null_ptr))) (λ at away is_at.
        move ! (1 ∷ []) $ split ! $ move ! (1 ∷ []) $ fpick !
        (λ both. fsplit ! $ feq_l ! (λ is_pair. fsplit ! $ feq_l ! (λ is_pointer. fsplit ! $
        rewrite ! 0 (λ (s : E.al.row.Denot). ‵ (E.al.row.own_val s both.1.0)) is_alloc refl $
        handle_tells E.al ! box.alloc both.1.0 (λ left is_left fits.
        let made : D E = record { ptr = block_ptr at away; alloc = box.alloc; value = box.value } in
        let parts : ThePart.Denot = record { ptr = block_ptr at away; alloc = box.alloc; value = box.value } in
        lands_as ! (ap only (is_pair ∙ (λ j. vstruct (of_list
        ((is_pointer ∙ ap (λ (p : Ptr). ptr_val p ∷ []) is_at) j ++ (is_left j ++ []))) ∷ []))) refl (box_typed E left at away fits) $
        sets ! (of_opd ! (get_in ! (fld ! refl (stop !)) (sub ! 0 refl (whole !)))) refl (tt, tt) $
        sets ! (of_opd ! (get_in ! (fld ! refl (stop !)) (sub ! 1 refl (whole !)))) refl fits $
        sets ! (of_opd ! (get ! refl)) refl fits $
        sets ! (agg ! (and_then ! (get ! refl) (and_then ! (get ! refl) (no_more !)))) refl (box_typed E left at away fits) $
        returns ! (look_at ! 0 refl) $ free_all ! refl $
        move ! (3 ∷ []) $ fsplit ! $ box_in E ! made at away box.value refl refl $
        use1 𝓛 (‵ (ThePart.own_val parts (word E left at away ∷ []))) (id⊢ 𝓤 _) $ move ! (1 ∷ []) $ drop ! $
        suffices ! _ (ends_at 𝓛 ended stays clauses z (word E left at away) parts ((tt, (tt, tt)), tt) (tt, tt)) $ says ! refl $
        nothing ! $ nothing ! $ fjoin ! $ join ! $ move ! (1 ∷ 0 ∷ []) $ join ! $ done !)))))))))))))

pub of_spec : {M : Type 1} → statement M
unfolding tables_of
of_spec 𝓤 𝓛 𝓜 𝓡 wired X Z X-laws Z-laws ghosts dict drops value_drops allocator glue value_glue =
    let E : Bx = record { row = X; laws = X-laws; al = record { row = Z; laws = Z-laws; g = ghosts; d = dict; drops = drops } } in
    let 𝓣 : Tables 𝓤 𝓛.H = tables_of 𝓤 𝓛.H 𝓜 (tables 𝓤 𝓛.H 𝓜 𝓡 𝓡.env) in
    let own = own_code E value_drops in
    entered 𝓤 𝓛.H (triple_of 𝓛 (ended E value_drops).signature (promise.spec X Z ghosts dict drops value_drops 𝓛 𝓜.mem 𝓡.returns)) 𝓣.C 𝓣.Λ
    (#self (dicts E value_drops)) own
    (code.unfolded 𝓤 𝓛.H 𝓜 𝓡 wired (X, (Z, tt)) dict drops value_drops)
    (walk_Meets 𝓛 (ended E value_drops) (stays E value_drops) (Goes-blank 𝓛 2 (plain (λ _. B E)) no (λ κs x f. tt), tt)
    (clauses E value_drops 𝓛 𝓜.mem 𝓡.returns 𝓣)
    (WpFn 𝓤 𝓛.H 𝓣.C 𝓣.Λ own) (WpFn-mono 𝓤 𝓛.H 𝓛.laws 𝓣 own)
    (steps E value_drops 𝓛 𝓜.mem 𝓡.returns 𝓣 (met 𝓤 𝓛 𝓜 𝓡 (code.calls-std_alloc::boxed::Box::into_raw_with_allocator 𝓡.env wired) X Z
    X-laws Z-laws ghosts dict drops value_drops allocator glue value_glue)))
