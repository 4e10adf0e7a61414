-- The code of `into_box`: it reads the two fields, and calls `from_raw` with what they own.
use mathlib.Core.List.{List, [], ◌∷◌, ◌++◌}
use mathlib.Core.Path.{◌≡◌, refl, sym, subst, ap}
use lib.Dec.{T}
use seplogic.Ra.Ura.{Ura}
use mir.MapTy.{inst_fn}
use mir.Syntax.{Fn, Body, place, copy, assign, rv_opd, seq, return}
use mir.Val.{Val, vptr, has_ty, WT}
use base.Fml.{ftrue, fsep, flft}
use base.Logic.{SProp, ent, id⊢}
use prog.Memory.{Memory}
use prog.Routine.{Routine}
use prog.Wp.{WpFn, Tables}
use types.Logic.{Logic}
use types.Kit.{Item, ‵, raw, ◌⊛◌, some, later, at_ret, ◌$◌, ◌∵◌, !, qed, by, move, drop, use1, join, split, split3, pick, rewrite, fsplit}
use types.Kit.{fjoin, feq_i, suffices, await, done}
use types.Part.{whole, sub}
use types.Run.{stop, fld, no_more, and_then, of_opd, returns, enter, first, blocks, exec}
use types.ByLocal.{alloc_all, pass_all, free_all, look_at, get, get_in, sets, lands_last, env}
use contract.BorrowLft.{◌⊑◌}
use contract.Monad.{Fun, fact}
use contract.Running.{tables, tables_of}
use sound.WpLaws.{fm_of, WpFn-mono}
use denote.Exit.{no}
use denote.RattleType.{RattleType}
use denote.RawPtr.{block_ptr}
use denote.Signature.{plain}
use denote.Steps.{heard, nothing, only}
use denote.Triple.Call.{calls_at_last}
use denote.Triple.Clauses.{Ended, Clauses}
use denote.Triple.Spec.{triple_of}
use denote.Triple.Statement.{Triple, Contract}
use denote.Triple.Table.{entered}
use denote.Triple.Walked.{says, Stays, stay_dropped, walk_of, ends_at, walk_Meets}
use Rattle.std.proofs.alloc.Calls.{token, Goes-blank}
use Rattle.std.specs.Box.Ownership.{box_owns}
use Rattle.std.proofs.BoxSteps.Form.{Bx, D, R, P, B, args, box_ty, word, box_typed}
use Rattle.std.proofs.BoxSteps.Steps.{box_out, box_in}
use Rattle.std.specs.contracts.boxed.Box.from_raw as made
use Rattle.std.proofs.boxed.Box.from_raw.Met.{met}
use Rattle.std.proofs.boxed.Box.from_raw.Symbol as made_by
use Rattle.box_parts.specs.contracts.Parts as Parts
use Rattle.box_parts.specs.contracts.Parts.into_box as promise
use Rattle.box_parts.specs.contracts.Parts.into_box.Key.{name as #self}
use Rattle.box_parts.proofs.Parts.into_box.Statement.{statement}
use Rattle.box_parts.proofs.Parts.into_box.Code as code

-- behind the block with the call
abbrev last_steps : Body
last_steps = seq (assign (place 0 []) (rv_opd (copy (place 4 [])))) return

module _ (E : Bx) where
  abbrev own_code : Fn
  own_code = inst_fn (args E) code.function

  abbrev ended : Ended
  ended = promise.ended E.row E.al.row E.al.g E.al.d E.al.drops

  abbrev ThePart : RattleType
  ThePart = Parts.the_row (R E) (P E) E.al.g

  abbrev stays : Stays ended.signature.params ended.kept
  stays = (stay_dropped (plain (λ _. ThePart)) no, tt)

  module _ {M : Type 1} {𝓤 : Ura M} (𝓛 : Logic 𝓤) (at_mem : Memory → SProp 𝓤) (run : Routine → Fun 𝓤) (𝓣 : Tables 𝓤 𝓛.H) where
    open 𝓛 use {H}

    abbrev clauses : Clauses 𝓤 ended
    clauses = promise.clauses E.row E.al.row E.al.g E.al.d E.al.drops 𝓛 at_mem run

    abbrev Makes : Contract 𝓤
    Makes = triple_of 𝓛 (made.signature E.row E.al.row E.al.g E.al.d E.al.drops)
        (made.spec E.row E.al.row E.al.g E.al.d E.al.drops 𝓛 at_mem run)

    steps : Triple 𝓤 (𝓣.C (made_by.name (args E))) Makes → (z : (walk_of 𝓛 ended stays clauses).Ghost)
        → ent 𝓤 ((walk_of 𝓛 ended stays clauses).pre z) (WpFn 𝓤 H 𝓣.C 𝓣.Λ own_code (z.0.4.0 ++ []) ((walk_of 𝓛 ended stays clauses).post z))
    steps is_made z =
        let κs = z.0.0 in let shares = z.0.1 in let parts = z.0.3.0 in let after = (walk_of 𝓛 ended stays clauses).post z in
        let same : D E = record { ptr = parts.ptr; alloc = parts.alloc; value = parts.value } in
        let tokens : Item 𝓤 = ‵ (flft κs.0 shares.0) ⊛ ‵ (flft κs.1.0 shares.1.0) ⊛ ‵ ftrue in
        let bounds : Item 𝓤 = raw (fact 𝓤 (κs.0 ⊑ E.row.lives)) ⊛ raw (fact 𝓤 (κs.1.0 ⊑ E.al.row.lives)) ⊛ ‵ ftrue in
        qed 𝓛 ((tokens ⊛ ‵ (fsep ((B E).own_val same z.0.4.0) ftrue)) ∷ bounds ∷ []) ∵ split ! $ move ! (1 ∷ []) $ fsplit ! $
        box_out E ! same z.0.4.0 (λ block offset handle is_there vals typed. fjoin ! $
        let pair = word E handle block offset in
        let asked : Makes.Ghost = (
          (
            κs,
            shares,
            tt,
            (parts.alloc, (block_ptr block offset, tt)),
            (handle ∷ [], (vptr block offset ∷ [], tt)),
          ),
          parts.value,
        ) in
        -- what the pointer owns; the allocator; what the value owns besides; the tokens; their bounds
        let owned : List (Item 𝓤) = ‵ (box_owns (token E.al parts.alloc) (R E) (block_ptr block offset) parts.value) ∷
        ‵ ((P E).own_val parts.alloc (handle ∷ [])) ∷ ‵ ftrue ∷ tokens ∷ bounds ∷ [] in
        by ! (subst (λ (given : List Val). ent 𝓤 (types.Kit.⋆ 𝓛 owned) (WpFn 𝓤 H 𝓣.C 𝓣.Λ own_code (given ++ []) after)) (sym vals)
        (qed 𝓛 owned ∵ enter ! 𝓣.C 𝓣.Λ own_code (pair ∷ []) _ $
        alloc_all ! (λ locals. pass_all ! refl (box_typed E handle block offset typed, tt) $
        sets ! (of_opd ! (get_in ! (fld ! refl (stop !)) (sub ! 0 refl (whole !)))) refl (tt, tt) $
        sets ! (of_opd ! (get_in ! (fld ! refl (stop !)) (sub ! 1 refl (whole !)))) refl typed $
        first ! $ blocks ! $ sets ! (of_opd ! (get ! refl)) refl typed $
        move ! (4 ∷ []) $ split3 ! $ move ! (2 ∷ []) $ drop ! $ move ! (1 ∷ 2 ∷ []) $ join ! $ move ! (1 ∷ 0 ∷ []) $ join ! $
        move ! (2 ∷ []) $ feq_i ! (List Val) (vptr block offset ∷ []) (vptr block offset ∷ []) refl $ fjoin ! $ move ! (2 ∷ 0 ∷ []) $
        fjoin ! $
        move ! (2 ∷ 0 ∷ []) $ join ! $ join ! $ use1 𝓛 (raw (Makes.pre asked)) (id⊢ 𝓤 _) $
        calls_at_last ! (fm_of 𝓤 H 𝓛.laws 𝓣) Makes is_made asked (and_then ! (get ! refl) (and_then ! (get ! refl) (no_more !))) (λ answer.
        use1 𝓛 (later (some (λ (whole : D E). (tokens ⊛ ‵ ((B E).own_val whole (answer ∷ [])))
        ⊛ some (λ (_ : Unit {0} × (Unit {0} × Unit {0})). ‵ (fsep ftrue (fsep ftrue ftrue))
        ⊛ (raw (fact 𝓤 (whole.value ≡ parts.value)) ⊛ raw (fact 𝓤 (whole.alloc ≡ parts.alloc))))))) (id⊢ 𝓤 _) $
        await ! tt $ pick ! (λ whole. split ! $ move ! (1 ∷ []) $
        pick ! (λ _. split3 ! $ drop ! $ heard ! (whole.value ≡ parts.value) (λ is_value. drop ! $ split ! $ move ! (1 ∷ []) $
        box_out E ! whole (answer ∷ []) (λ at away left there is_answer fits. box_in E ! whole at away whole.value there refl $
        rewrite ! 0 (λ (given : List Val). ‵ ((B E).own_val whole given)) (sym is_answer) refl $
        let good : T (has_ty (box_ty E) answer) × WT answer =
        subst (λ (given : Val). T (has_ty (box_ty E) given) × WT given) (sym (ap only is_answer)) (box_typed E left at away fits) in
        lands_last ! refl good $ exec ! 𝓣.C 𝓣.Λ (env own_code.locals locals) last_steps (at_ret (env own_code.locals locals) after) $
        sets ! (of_opd ! (get ! refl)) refl good $ returns ! (look_at ! 0 refl) $ free_all ! refl $
        suffices ! _ (ends_at 𝓛 ended stays clauses z answer whole ((tt, (tt, tt)), tt) (tt, tt)) $ says ! is_value $
        nothing ! $ nothing ! $ fjoin ! $ join ! $ move ! (1 ∷ 0 ∷ []) $ join ! $ done !)))))))))

pub into_box_spec : {M : Type 1} → statement M
unfolding tables_of
into_box_spec 𝓤 𝓛 𝓜 𝓡 wired X Z X-laws Z-laws ghosts dict drops allocator glue =
    let E : Bx = record { row = X; laws = X-laws; al = record { row = Z; laws = Z-laws; g = ghosts; d = dict; drops = drops } } in
    let 𝓣 : Tables 𝓤 𝓛.H = tables_of 𝓤 𝓛.H 𝓜 (tables 𝓤 𝓛.H 𝓜 𝓡 𝓡.env) in
    let own = own_code E in
    entered 𝓤 𝓛.H (triple_of 𝓛 (ended E).signature (promise.spec X Z ghosts dict drops 𝓛 𝓜.mem 𝓡.returns)) 𝓣.C 𝓣.Λ (#self (args E)) own
    (code.unfolded 𝓤 𝓛.H 𝓜 𝓡 wired (X, (Z, tt)) dict drops)
    (walk_Meets 𝓛 (ended E) (stays E) (Goes-blank 𝓛 2 (plain (λ _. ThePart E)) no (λ κs x f. tt), tt) (clauses E 𝓛 𝓜.mem 𝓡.returns 𝓣)
    (WpFn 𝓤 𝓛.H 𝓣.C 𝓣.Λ own) (WpFn-mono 𝓤 𝓛.H 𝓛.laws 𝓣 own)
    (steps E 𝓛 𝓜.mem 𝓡.returns 𝓣 (met 𝓤 𝓛 𝓜 𝓡 (code.calls-std_alloc::boxed::Box::from_raw 𝓡.env wired) X Z X-laws Z-laws ghosts dict drops
    allocator glue)))
