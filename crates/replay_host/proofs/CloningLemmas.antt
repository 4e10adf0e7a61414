-- Clones that are filled between the lines of a scenario.
use Rattle.std.proofs.Common.{◌≡◌, ◌∙◌, ℕ, ◌-◌, ◌<◌, Bool, true, cond, Some, List, [], ◌∷◌, ◌++◌, length, map, refl, sym, ap, subst, append_assoc, append-nil}
use Rattle.byte_io.specs.Bytes.{Intake}
use Rattle.trace_model.specs.Buffers.{Buffer}
use Rattle.trace_model.specs.Delivery.{IsFaithfulOf}
use Rattle.trace_model.specs.History.{buffers_after, state_after}
use Rattle.trace_buffer.specs.Clones.{made_from, cloned}
use Rattle.buffer_clone.proofs.NumberLemmas.{made_after}
use Rattle.scenario_text.specs.declared.scenario.LineKind.{LineKind}
use Rattle.scenario_text.specs.declared.scenario.LineKind.TheVariants as line
use Rattle.scenario_text.specs.declared.scenario.NumberedLine.{NumberedLine}
use Rattle.scenario_text.specs.Clones.{clones_by, clones_in, is_no_clone, other_lines, without_clones, ClonesNone}
use Rattle.scenario_text.specs.Raws.{HasNoRaw}
use Rattle.scenario_text.specs.Scenario.{Parts}
use Rattle.chunk_plain.specs.Histories.{history_of}
use Rattle.chunk_plain.specs.Meaning.{Meaning}
use Rattle.chunk_plain.specs.Setup.{Setup}
use Rattle.chunk_plain.specs.Views.{ServiceView}
use Rattle.chunk_plain.specs.World.{World}
use Rattle.loss_report.specs.declared.counts.Done.{Done}
use Rattle.service_core.specs.Agreement.{first_of}
use Rattle.service_core.specs.Routing.{buffer_at}
use Rattle.service_core.proofs.RouteLemmas.{at_after}
use Rattle.replay_model.specs.Clones.{AreMadeFor, MakeClones, clone_in, first_of_number}
use Rattle.replay_model.specs.ActNotes.{ActNote}
use Rattle.replay_model.specs.Played.{buffers_of}
use Rattle.replay_model.specs.Plays.{Plays}
use Rattle.replay_model.specs.Schedule.{acts_of}
use Rattle.replay_model.proofs.CloneLemmas.{no_clone_asks, own_others}
use Rattle.replay_host.specs.declared.fault.HostFault.{HostFault}
use Rattle.replay_host.specs.declared.fault.HostFault.TheVariants.{OutOfMemory, WriteFault, Stalled}
use Rattle.replay_host.specs.declared.host.Host.{Host}
use Rattle.replay_host.specs.Cloning.{FitsClone, HaveCloned, HasReplayedCloning, clone_now}
use Rattle.replay_host.specs.Playing.{IsHost, HasDone}
use Rattle.replay_host.specs.Replaying.{HasReplayed, HasStopped, EndsEarly}
use Rattle.replay_host.proofs.RoomLemmas.{room_after}
use Rattle.replay_host.proofs.RowLemmas.{AreLaws}

-- ---- clones on the way

pub make_none : (scenario : Parts) (setup : Setup) (before : List NumberedLine) (world : World) → MakeClones scenario setup before [] world world []
make_none scenario setup before world = (refl, refl)

-- one line more
pub make_more : (scenario : Parts) (setup : Setup) (before lines : List NumberedLine) (one : NumberedLine) (world mid last : World) (notes : List ActNote) (clones : List Buffer)
    → MakeClones scenario setup before lines world mid clones
    → Plays setup (buffers_of scenario setup) (acts_of scenario (before ++ lines) one.what) mid last notes
    → MakeClones scenario setup before (lines ++ one ∷ []) world last (clones ++ map (clone_in scenario setup last) (clones_by one.what))
make_more scenario setup before [] one world mid last notes clones (mid_is, clones_are) plays = (
  last,
  notes,
  [],
  subst (λ (w : World). Plays setup (buffers_of scenario setup) (acts_of scenario before one.what) w last notes) mid_is
      (subst (λ (earlier : List NumberedLine). Plays setup (buffers_of scenario setup) (acts_of scenario earlier one.what) mid last notes) (append-nil before) plays),
  ap (λ (cs : List Buffer). cs ++ map (clone_in scenario setup last) (clones_by one.what)) clones_are
      ∙ sym (append-nil (map (clone_in scenario setup last) (clones_by one.what))),
  (refl, refl),
)
make_more scenario setup before (first ∷ lines) one world mid last notes clones (next, noted, later, playing, clones_are, rest) plays = (
  next,
  noted,
  later ++ map (clone_in scenario setup last) (clones_by one.what),
  playing,
  ap (λ (cs : List Buffer). cs ++ map (clone_in scenario setup last) (clones_by one.what)) clones_are
      ∙ append_assoc (map (clone_in scenario setup next) (clones_by first.what)) later (map (clone_in scenario setup last) (clones_by one.what)),
  make_more scenario setup (before ++ first ∷ []) lines one next mid last notes later rest
      (subst (λ (earlier : List NumberedLine). Plays setup (buffers_of scenario setup) (acts_of scenario earlier one.what) mid last notes)
      (sym (append_assoc before (first ∷ []) lines)) plays),
)

-- ---- the clones of a host

module _ {T W S : Type 0} (means : Meaning T W S) (laws : AreLaws means) (scenario : Parts) (old : Host T W S) where
  pub cloned_first : HaveCloned means scenario [] [] old old []
  cloned_first was told = (was, told, make_none scenario (means.setup old.table) [] was)

  module _ (lines : List NumberedLine) (one : NumberedLine) (clones : List Buffer) (mid new : Host T W S) (between left : Intake) (notes : List ActNote)
      (so : HaveCloned means scenario [] lines old mid clones) (same : means.setup mid.table ≡ means.setup old.table)
      (first : first_of (means.setup mid.table) mid.helper.service ≡ buffers_of scenario (means.setup mid.table))
      (host : IsHost means new) (done : HasDone means (acts_of scenario lines one.what) notes mid between new left) where
    -- the clone of a buffer by the service's notes is that of the world
    clone_is : (world : World) → means.told new.table ≡ Some world → (number : ℕ) → clone_now means new number ≡ clone_in scenario (means.setup old.table) world number
    clone_is world told number =
        let view : means.service_view new.table new.helper.service.seat ≡ world.service =
        laws.told_service_view new.table new.helper.service.seat world told host.stands.served.serves in
        let firsts : first_of (means.setup new.table) new.helper.service ≡ buffers_of scenario (means.setup old.table) =
        ap (λ (s : Setup). first_of s new.helper.service) done.setup_is ∙ done.first ∙ first ∙ ap (buffers_of scenario) same in
        ap (λ (bs : List Buffer). cloned (buffer_at (buffers_after bs (history_of (means.service_view new.table new.helper.service.seat))) (number - 1))) firsts
        ∙ ap (λ (v : ServiceView). cloned (buffer_at (buffers_after (buffers_of scenario (means.setup old.table)) (history_of v)) (number - 1))) view

    clones_are : (world : World) → means.told new.table ≡ Some world → (numbers : List ℕ)
        → map (clone_now means new) numbers ≡ map (clone_in scenario (means.setup old.table) world) numbers
    clones_are world told [] = refl
    clones_are world told (number ∷ numbers) =
        ap (λ (b : Buffer). b ∷ map (clone_now means new) numbers) (clone_is world told number)
        ∙ ap (λ (bs : List Buffer). clone_in scenario (means.setup old.table) world number ∷ bs) (clones_are world told numbers)

    -- behind one line more, with its clone
    pub cloned_next : HaveCloned means scenario [] (lines ++ one ∷ []) old new (clones ++ map (clone_now means new) (clones_by one.what))
    cloned_next was told =
        let middle = so was told in
        let played = done.plays middle.0 middle.1 in
        let plays : Plays (means.setup old.table) (buffers_of scenario (means.setup old.table)) (acts_of scenario lines one.what) middle.0 played.0 notes =
        subst (λ (s : Setup). Plays s (buffers_of scenario s) (acts_of scenario lines one.what) middle.0 played.0 notes) same
        (subst (λ (bs : List Buffer). Plays (means.setup mid.table) bs (acts_of scenario lines one.what) middle.0 played.0 notes) first played.2) in (
          played.0,
          played.1,
          subst (λ (bs : List Buffer). MakeClones scenario (means.setup old.table) [] (lines ++ one ∷ []) was played.0 (clones ++ bs))
              (sym (clones_are played.0 played.1 (clones_by one.what)))
              (make_more scenario (means.setup old.table) [] lines one was middle.0 played.0 notes clones middle.2 plays),
        )

-- ---- what a clone is made for

-- behind any notes a buffer is as large as at first, and has the same sequences
pub fits_clone : {T W S : Type 0} (means : Meaning T W S) (host : Host T W S) (number : ℕ) (clone : Buffer) → IsHost means host
    → number - 1 < length (first_of (means.setup host.table) host.helper.service)
    → clone ≡ buffer_at (first_of (means.setup host.table) host.helper.service) (number - 1) → FitsClone host number clone
fits_clone means host number clone is inside made =
    let first = first_of (means.setup host.table) host.helper.service in
    let history = history_of (means.service_view host.table host.helper.service.seat) in
    let now : buffer_at host.helper.service.buffers.items (number - 1) ≡ state_after (buffer_at first (number - 1)) history =
    ap (λ (bs : List Buffer). buffer_at bs (number - 1)) is.stands.served.agrees.buffers ∙ at_after first (number - 1) history inside in
    record {
      room = ap (λ (b : Buffer). b.room) made ∙ sym (ap (λ (b : Buffer). b.room) now ∙ room_after history (buffer_at first (number - 1)));
      sequences = ap (λ (b : Buffer). map made_from b.sequences) made
          ∙ sym (ap (λ (b : Buffer). map made_from b.sequences) now ∙ made_after history (buffer_at first (number - 1)));
    }

-- ---- a scenario whose lines ask for no clone

pub made_for_none : (scenario : Parts) (clones : List Buffer) → ClonesNone scenario.lines → clones ≡ [] → AreMadeFor scenario clones
made_for_none scenario clones none empty setup setup_is = empty ∙ ap (map (first_of_number scenario setup)) (sym none)

none_other : (lines : List NumberedLine) → clones_in lines ≡ [] → other_lines lines ≡ lines
none_other [] none = refl
none_other (one ∷ lines) none = by_kind one.what refl (none_other lines)
  where
    ends : clones_by one.what ≡ [] → clones_in lines ≡ []
    ends empty = ap (λ (ns : List ℕ). ns ++ clones_in lines) (sym empty) ∙ none

    keep : (clones_in lines ≡ [] → other_lines lines ≡ lines) → is_no_clone one.what ≡ true → clones_by one.what ≡ [] → other_lines (one ∷ lines) ≡ one ∷ lines
    keep rest other empty =
        ap (λ (b : Bool). cond b (one ∷ other_lines lines) (other_lines lines)) other
        ∙ ap (λ (ls : List NumberedLine). one ∷ ls) (rest (ends empty))

    by_kind : (kind : LineKind) → one.what ≡ kind → (clones_in lines ≡ [] → other_lines lines ≡ lines) → other_lines (one ∷ lines) ≡ one ∷ lines
    by_kind (line.Packet writer fields) is rest = keep rest (ap is_no_clone is) (ap clones_by is)
    by_kind (line.Begin writer) is rest = keep rest (ap is_no_clone is) (ap clones_by is)
    by_kind (line.Add writer fields) is rest = keep rest (ap is_no_clone is) (ap clones_by is)
    by_kind (line.Nest writer field) is rest = keep rest (ap is_no_clone is) (ap clones_by is)
    by_kind (line.Unnest writer) is rest = keep rest (ap is_no_clone is) (ap clones_by is)
    by_kind (line.End writer) is rest = keep rest (ap is_no_clone is) (ap clones_by is)
    by_kind (line.Flush writer) is rest = keep rest (ap is_no_clone is) (ap clones_by is)
    by_kind (line.Collect producer) is rest = keep rest (ap is_no_clone is) (ap clones_by is)
    by_kind (line.Scrape producer) is rest = keep rest (ap is_no_clone is) (ap clones_by is)
    by_kind (line.Close producer) is rest = keep rest (ap is_no_clone is) (ap clones_by is)
    by_kind (line.Read buffer limit) is rest = keep rest (ap is_no_clone is) (ap clones_by is)
    by_kind line.Request is rest = keep rest (ap is_no_clone is) (ap clones_by is)
    by_kind (line.Raw writer chunk) is rest = keep rest (ap is_no_clone is) (ap clones_by is)
    by_kind (line.CloneBuffer buffer) is rest =
        let some : buffer ∷ clones_in lines ≡ [] = ap (λ (kind : LineKind). clones_by kind ++ clones_in lines) (sym is) ∙ none in
        absurd (cc)

without_none : (scenario : Parts) → ClonesNone scenario.lines → without_clones scenario ≡ scenario
without_none scenario none = ap (λ (lines : List NumberedLine). record scenario { lines = lines }) (none_other scenario.lines none)

pub replayed_alone : (scenario : Parts) (old new : Intake) (done : Done) (clones : List Buffer) → ClonesNone scenario.lines
    → HasReplayedCloning scenario old new done clones → HasReplayed scenario old new done
replayed_alone scenario old new done clones none replays = subst (λ (s : Parts). HasReplayed s old new done) (without_none scenario none) replays.replays

pub stopped_alone : (scenario : Parts) (fault : HostFault) (old new : Intake) → ClonesNone scenario.lines
    → EndsEarly (without_clones scenario) fault old new → EndsEarly scenario fault old new
stopped_alone scenario fault old new none ends = subst (λ (s : Parts). EndsEarly s fault old new) (without_none scenario none) ends

-- ---- a stop is one of the scenario without its clones

stopped_without : (scenario : Parts) (fault : HostFault) (old new : Intake) → HasStopped scenario fault old new → HasStopped (without_clones scenario) fault old new
stopped_without scenario fault old new stopped =
    let at = stopped.stops in
    record {
      setup = stopped.setup;
      setup_is = record { specs = stopped.setup_is.specs; made = stopped.setup_is.made; laid = stopped.setup_is.laid };
      stops = record {
        done = at.done;
        act = at.act;
        rest = at.rest;
        cut = (no_clone_asks scenario).schedule ∙ at.cut;
        notes = at.notes;
        world = at.world;
        plays = at.plays;
        records = at.records;
        halts = at.halts;
        takes = at.takes;
      };
      faithful =
          let own = subst (λ (emitted : List (List (List ℕ))). IsFaithfulOf (HasNoRaw scenario.lines) emitted at.records) (sym (no_clone_asks scenario).emitted) stopped.faithful in
          record { known = own.known; told = λ place packets none. own.told place packets (own_others scenario place none) };
    }

pub ends_without : (scenario : Parts) (fault : HostFault) (old new : Intake) → EndsEarly scenario fault old new → EndsEarly (without_clones scenario) fault old new
ends_without scenario OutOfMemory old new ends = ends
ends_without scenario WriteFault old new ends = stopped_without scenario WriteFault old new ends
ends_without scenario (Stalled writer) old new ends = stopped_without scenario (Stalled writer) old new ends
