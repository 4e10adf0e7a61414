-- The code of `open`: it reads the pointer through the borrow, and lends what lies there. The handle follows what is written.
use Prim.Native.Nat.{ℕ}
use mathlib.Core.Bool.{true, false}
use mathlib.Core.List.{List, [], ◌∷◌}
use mathlib.Core.Path.{◌≡◌, refl, sym, subst}
use lib.Dec.{T}
use seplogic.Ra.Ura.{Ura}
use mir.Raw.{raw as bare}
use mir.Syntax.{named}
use mir.Val.{Val, vptr}
use base.Fml.{Lft, GName, Share, Fml, ftrue, flft, fsep}
use base.Fraction.{full_share}
use base.Logic.{SProp, ent, sep}
use prog.Memory.{Memory}
use prog.Routine.{Routine}
use prog.Wp.{Env, Calls, Loops, WpFn, Tables}
use types.Logic.{Logic, sem}
use types.Kit.{‵, ◌⊛◌, some, at_ret, ◌$◌, ◌∵◌, !, qed, by, move, keep, use1, drop, split, join, pick, rewrite, fsplit, fsplit3, fjoin}
use types.Kit.{fpack, suffices, frame, done, raw, later, await, group}
use types.Part.{whole, sub, look_in}
use types.Run.{stop, fld, load, of_opd, first, blocks, exec, returns, enter, addr}
use types.ByLocal.{alloc_all, pass_all, free_all, look_at, get, through, sets, env, sets_last}
use contract.Monad.{Fun, fact}
use contract.Running.{tables, tables_of}
use sound.WpLaws.{WpFn-mono}
use denote.Exit.{no}
use denote.Follow.{follows, Part, lends_Part}
use denote.Memory.{part_at, mem, cell_at, part_of}
use denote.RattleType.{RattleType, owns}
use denote.RawPtr.{Ptr, block_ptr}
use denote.Ref.{MutRef, mut_vals, mut_Tells}
use denote.Signature.{plain, mut_ref_to}
use denote.Steps.{nothing, opens, heard}
use denote.Triple.Entry.{on_entry}
use denote.Triple.Spec.{Meets, triple_of}
use denote.Triple.Table.{entered}
use denote.Triple.Walked.{says, Stays, stay_dropped, walk_of, ends_at, walked, walk_Meets, Goes-spent_ref}
use Rattle.std.specs.Prelude.{Option, Some, None}
use Rattle.std.specs.Global.{Global}
use Rattle.std.proofs.alloc.Calls.{token}
use Rattle.std.proofs.alloc.Shapes.{after as steps_after}
use Rattle.std.proofs.BoxSteps.Form.{X, τ, R, word, handle}
use Rattle.std.proofs.BoxSteps.Steps.{box_out, box_in}
use Rattle.tracesmb_c.proofs.WriterBox.{E}
use Rattle.tracesmb_c.specs.WriterOpened.{with_writer}
use Rattle.tracesmb_c.specs.contracts.writer.OwnedWriter as Inner
use Rattle.tracesmb_c.specs.contracts.writer_handle.RawWriter as Raw
use Rattle.tracesmb_c.specs.contracts.writer_handle.RawWriter.open as promise
use Rattle.tracesmb_c.specs.contracts.writer_handle.RawWriter.open.Key.{name as #self}
use Rattle.tracesmb_c.proofs.writer_handle.RawWriter.open.Statement.{statement}
use Rattle.tracesmb_c.proofs.writer_handle.RawWriter.open.Code as code

abbrev Row : RattleType
Row = Raw.the_row

abbrev Held : RattleType
Held = Inner.the_row

abbrev stays : Stays (promise.ended).signature.params (promise.ended).kept
stays = (stay_dropped (mut_ref_to (0 ∷ []) tt (plain (λ _. Row))) no, tt)

module _ {M : Type 1} {𝓤 : Ura M} (𝓛 : Logic 𝓤) (at_mem : Memory → SProp 𝓤) (run : Routine → Fun 𝓤) (κ : Lft) (q : Share) (rb ro : ℕ)
    (γ : GName) (ptr : Ptr) (alloc : Global) where
  open 𝓛 use {H, A}

  -- the handle with this in it, as it is lent
  abbrev at_entry : Option (X E) → Row.Denot
  at_entry value = record { at = ptr; alloc = alloc; value = value }

  abbrev bound : Option (X E) → (walk_of 𝓛 promise.ended stays (promise.clauses 𝓛 at_mem run)).Ghost
  bound value = (
    (
      (κ, tt),
      (q, tt),
      tt,
      (record { ref_ptr = (rb, ro); ghost_name = γ; now = at_entry value }, tt),
      (vptr rb ro ∷ [], tt),
    ),
    tt,
  )

  abbrev Post : Option (X E) → Val → SProp 𝓤
  Post value = (walk_of 𝓛 promise.ended stays (promise.clauses 𝓛 at_mem run)).post (bound value)

  module _ (block offset : ℕ) (left : Val) where
    -- all of the handle but its writer
    abbrev Rest : Fml
    Rest = fsep (fsep (token E.al alloc (bare (τ E)) (block_ptr block offset)) (handle E alloc left))
        (cell_at full_share Row.mir (word E left block offset ∷ []) rb ro)

    back : ptr ≡ block_ptr block offset → (x : X E) (w : X E)
        → ent 𝓤 (sep 𝓤 (sem 𝓛 ((mem Held).own_at w block offset)) (sem 𝓛 Rest))
        (sem 𝓛 ((mem Row).own_at (with_writer (at_entry (Some x)) w) rb ro))
    unfolding part_of
    back is_there x w =
        qed 𝓛 (‵ (part_at (R E) full_share w block offset) ∷ ‵ Rest ∷ []) ∵ move ! (1 ∷ []) $ fsplit ! $ fsplit ! $ move ! (3 ∷ []) $
        box_in E ! (record { ptr = ptr; alloc = alloc; value = w }) block offset w is_there refl $ move ! (1 ∷ 0 ∷ []) $ fjoin ! $
        fpack ! (List Val) (λ us. fsep (cell_at full_share Row.mir us rb ro) (Row.own_val (with_writer (at_entry (Some x)) w) us))
        (word E left block offset ∷ []) $ done !

    exits : (x : X E) (γ' : GName)
        → ent 𝓤 (sep 𝓤 (sem 𝓛
        ((MutRef (named 0) κ Held).own_val (record { ref_ptr = (block, offset); ghost_name = γ'; now = x }) (vptr block offset ∷ [])))
        (sep 𝓤 (A.lft κ q) (sem 𝓛 (follows Row Held γ γ' (with_writer (at_entry (Some x))))))) (Post (Some x) (vptr block offset))
    exits x γ' =
        qed 𝓛 (‵ ((MutRef (named 0) κ Held).own_val (record { ref_ptr = (block, offset); ghost_name = γ'; now = x })
        (vptr block offset ∷ []))
        ∷ ‵ (flft κ q) ∷ ‵ (follows Row Held γ γ' (with_writer (at_entry (Some x)))) ∷ []) ∵
        suffices ! _ (ends_at 𝓛 promise.ended stays (promise.clauses 𝓛 at_mem run) (bound (Some x)) (vptr block offset)
        (record { ref_ptr = (block, offset); ghost_name = γ'; now = x }) (tt, tt) (tt, tt)) $
        nothing ! $ nothing ! $ fjoin ! $ join ! $ nothing ! $ move ! (2 ∷ 0 ∷ []) $ join ! $ join ! $ frame ! $ says ! refl $ done !

  module _ (C : Calls 𝓤 H) (Λ : Loops 𝓤 H) where
    steps : (value : Option (X E))
        → ent 𝓤 (sep 𝓤 (on_entry 𝓛 (promise.ended).signature (κ, tt) (q, tt)
        (record { ref_ptr = (rb, ro); ghost_name = γ; now = at_entry value }, tt) (vptr rb ro ∷ [], tt))
        ((promise.clauses 𝓛 at_mem run (κ, tt) (record { ref_ptr = (rb, ro); ghost_name = γ; now = at_entry value }, tt)).requires tt))
        (WpFn 𝓤 H C Λ code.function (vptr rb ro ∷ []) (Post value))
    steps None =
        qed 𝓛 (((‵ (flft κ q) ⊛ ‵ ftrue) ⊛ ‵
        (owns (MutRef (named 0) κ Row ∷ []) (record { ref_ptr = (rb, ro); ghost_name = γ; now = at_entry None }, tt)
        (vptr rb ro ∷ [], tt))) ∷ raw (fact 𝓤 (false ≡ true)) ∷ []) ∵
        move ! (1 ∷ []) $ heard ! (false ≡ true) (λ wrong. by ! (absurd (subst T (sym wrong) tt)))
    steps (Some x) =
        qed 𝓛 (((‵ (flft κ q) ⊛ ‵ ftrue) ⊛ ‵
        (owns (MutRef (named 0) κ Row ∷ []) (record { ref_ptr = (rb, ro); ghost_name = γ; now = at_entry (Some x) }, tt)
        (vptr rb ro ∷ [], tt))) ∷ raw (fact 𝓤 (true ≡ true)) ∷ []) ∵
        move ! (1 ∷ []) $ drop ! $ split ! $
        enter ! C Λ code.function (vptr rb ro ∷ []) _ $
        alloc_all ! (λ l. pass_all ! refl ((tt, tt), tt) $
        let En : Env 𝓤 H = env code.function.locals l in
        move ! (1 ∷ []) $ fsplit ! $ fsplit3 ! $ drop ! $ move ! (3 ∷ []) $ split ! $ move ! (2 ∷ 3 ∷ 0 ∷ []) $
        opens ! tt Row {h = at_entry (Some x)} rb ro (λ vs. move ! (1 ∷ []) $
        box_out E ! (record { ptr = ptr; alloc = alloc; value = x }) vs
        (λ block offset left is_there is_pair fits. move ! (1 ∷ 2 ∷ []) $ fjoin ! $ move ! (1 ∷ []) $
        rewrite ! 2 (λ us. ‵ (cell_at full_share Row.mir us rb ro)) is_pair refl $
        first ! $ blocks ! $
        sets ! (of_opd ! (load ! (through ! refl (fld ! refl (stop !))) (look_in ! 2 (sub ! 0 refl (whole !))))) refl (tt, tt) $
        sets ! (of_opd ! (get ! refl)) refl (tt, tt) $
        sets_last ! (addr ! (through ! refl (stop !))) refl (tt, tt) $
        exec ! C Λ En (steps_after 1 code.function.body) (at_ret En (Post (Some x))) $
        sets ! (of_opd ! (get ! refl)) refl (tt, tt) $
        move ! (1 ∷ 2 ∷ []) $ fjoin ! $ move ! (2 ∷ 3 ∷ 4 ∷ 1 ∷ 0 ∷ []) $ group ! 5 $
        use1 𝓛 (later (some (λ (γ' : GName). raw
        (Part 𝓛 Row Held (with_writer (at_entry (Some x))) (named 0) κ q rb ro block offset γ (sem 𝓛 (Rest block offset left))
        (back block offset left is_there x) x γ'))))
        (lends_Part 𝓛 Row Held (with_writer (at_entry (Some x))) (named 0) κ q rb ro block offset γ (sem 𝓛 (Rest block offset left))
        (back block offset left is_there x)
        (Row.coded.code (at_entry (Some x))) (Row.coded.code (at_entry (Some x))) x) $ await ! tt $ pick ! (λ γ'.
        returns ! (look_at ! 0 refl) $ free_all ! refl $
        keep ! (0 ∷ []) $ by ! (exits block offset left x γ')))))

meets : {M : Type 1} {𝓤 : Ura M} (𝓛 : Logic 𝓤) (at_mem : Memory → SProp 𝓤) (run : Routine → Fun 𝓤) (𝓣 : Tables 𝓤 𝓛.H)
    → Meets 𝓛 promise.signature (WpFn 𝓤 𝓛.H 𝓣.C 𝓣.Λ code.function) (promise.spec 𝓛 at_mem run)
meets {𝓤 = 𝓤} 𝓛 at_mem run 𝓣 =
    walk_Meets 𝓛 promise.ended stays (Goes-spent_ref 𝓛 1 (0 ∷ []) tt (plain (λ _. Row)), tt) (promise.clauses 𝓛 at_mem run)
    (WpFn 𝓤 𝓛.H 𝓣.C 𝓣.Λ code.function) (WpFn-mono 𝓤 𝓛.H 𝓛.laws 𝓣 code.function)
    (walked 𝓛 promise.ended stays (promise.clauses 𝓛 at_mem run) (WpFn 𝓤 𝓛.H 𝓣.C 𝓣.Λ code.function) (λ κs. (mut_vals, tt))
    (λ κs. (mut_Tells (named 0) κs.0 Row, tt))
    (λ κs qs bounds a g are. steps 𝓛 at_mem run κs.0 qs.0 a.0.ref_ptr.0 a.0.ref_ptr.1 a.0.ghost_name a.0.now.at a.0.now.alloc 𝓣.C 𝓣.Λ
    a.0.now.value))

pub open_spec : {M : Type 1} → statement M
unfolding tables_of
open_spec 𝓤 𝓛 𝓜 𝓡 wired =
    let 𝓣 : Tables 𝓤 𝓛.H = tables_of 𝓤 𝓛.H 𝓜 (tables 𝓤 𝓛.H 𝓜 𝓡 𝓡.env) in
    entered 𝓤 𝓛.H (triple_of 𝓛 promise.signature (promise.spec 𝓛 𝓜.mem 𝓡.returns)) 𝓣.C 𝓣.Λ #self code.function
    (code.unfolded 𝓤 𝓛.H 𝓜 𝓡 wired) (meets 𝓛 𝓜.mem 𝓡.returns 𝓣)
