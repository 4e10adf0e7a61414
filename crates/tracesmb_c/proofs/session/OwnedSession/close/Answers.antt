-- What the seats knew is the account, and what was counted is its report.
use Rattle.std.proofs.Common.{◌≡◌, ◌∙◌, ℕ, true, false, List, ◌++◌, length, append-nil, sym, ap, subst, arith}
use Rattle.std.specs.Arc.{arc_value}
use Rattle.std.specs.Prelude.{slice_index_or}
use Rattle.std.proofs.lemmas.Option.{slice_get_within, get_or_from_slice_get}
use Rattle.trace_base.specs.declared.policy.WriterSpec.{WriterSpec}
use Rattle.chunk_words.specs.declared.host.HostTable.{HostTable}
use Rattle.chunk_words.specs.declared.seats.ReadPass.{ReadPass}
use Rattle.chunk_words.specs.Closed.{HasAllSeats, IsAccount, views_of}
use Rattle.chunk_words.specs.GoesOn.{GoesOn}
use Rattle.chunk_words.specs.Sits.{Passes, setup_in, known_by_pass}
use Rattle.thread_service.specs.declared.service.Service.{Service}
use Rattle.thread_service.specs.Serving.{Serves, core_of, view_in, desk_in}
use Rattle.tracesmb_c.specs.declared.session.Counted.{Counted}
use Rattle.tracesmb_c.specs.Losing.{losses_at, no_losses}
use Rattle.tracesmb_c.specs.Ending.{none_counted}
use Rattle.tracesmb_c.specs.Sessions.{session_table, known_in}
use Rattle.tracesmb_c.proofs.CloseLemmas.{all_seats, closed_faithful, closed_lost}
use Rattle.tracesmb_c.proofs.session.OwnedSession.close.Goals as goal

pub count_losses-requires-clause-serves : goal.count_losses-requires-clause-serves
count_losses-requires-clause-serves c = (
  session_table c.args.self,
  subst (λ (s : Service). Serves (session_table c.args.self) s)
      (sym c.into_ended-table.ensures.service) c.requires.session.serves,
)

pub count_losses-requires-clause-counts : goal.count_losses-requires-clause-counts
count_losses-requires-clause-counts c =
    let ended = c.requires.session.ended c.requires.stopped in
    c.requires.room ∙ ended.many ∙ sym ended.counts
    ∙ sym (ap (λ (cs : List Counted). length cs) (c.deref.ensures.value ∙ ap (λ v. v.items) c.into_ended-table.ensures.counts))

pub count_losses-requires-clause-writers : goal.count_losses-requires-clause-writers
count_losses-requires-clause-writers c =
    let ended = c.requires.session.ended c.requires.stopped in
    c.requires.room ∙ ended.many ∙ sym (ap (λ (ws : List WriterSpec). length ws) c.requires.session.serves.agrees.writers)
    ∙ sym (ap (λ (s : Service). length (core_of s).writers.items) c.into_ended-table.ensures.service)

pub take_apart-requires-clause-serves : goal.take_apart-requires-clause-serves
take_apart-requires-clause-serves c =
    let table : c.in-Ok.table ≡ session_table c.args.self = c.in-Ok.ensures.ok ∙ ap arc_value c.into_ended-table.ensures.table in
    subst (λ (t : HostTable). Serves t c.into_ended-table.result.service) (sym table)
    (subst (λ (s : Service). Serves (session_table c.args.self) s) (sym c.into_ended-table.ensures.service) c.requires.session.serves)

pub take_apart-requires-clause-pass : goal.take_apart-requires-clause-pass
take_apart-requires-clause-pass c =
    let table : c.in-Ok.table ≡ session_table c.args.self = c.in-Ok.ensures.ok ∙ ap arc_value c.into_ended-table.ensures.table in
    subst (λ (t : HostTable). Passes t c.into_ended-table.result.pass) (sym table)
    (subst (λ (p : ReadPass). Passes (session_table c.args.self) p) (sym c.into_ended-table.ensures.pass) c.requires.session.pass)

pub take_apart-requires-clause-seats : goal.take_apart-requires-clause-seats
take_apart-requires-clause-seats c =
    let table : c.in-Ok.table ≡ session_table c.args.self = c.in-Ok.ensures.ok ∙ ap arc_value c.into_ended-table.ensures.table in
    subst (λ (t : HostTable). HasAllSeats t (view_in c.into_ended-table.result.service) c.into_ended-table.result.seats.items) (sym table)
    (subst (λ (s : Service). HasAllSeats (session_table c.args.self) (view_in s) c.into_ended-table.result.seats.items)
    (sym c.into_ended-table.ensures.service)
    (subst (λ v. HasAllSeats (session_table c.args.self) (known_in c.args.self) v.items) (sym c.into_ended-table.ensures.seats)
    (all_seats c.args.self c.requires.session c.requires.stopped)))

pub returns-in-Ok : goal.returns-in-Ok
returns-in-Ok c =
    let session = c.args.self in
    let table : c.in-Ok.table ≡ session_table c.args.self = c.in-Ok.ensures.ok ∙ ap arc_value c.into_ended-table.ensures.table in
    let marks = (desk_in c.into_ended-table.result.service).marks in
    let account : IsAccount (setup_in (session_table session)) marks (views_of session.seats.items) (known_in session) =
    subst (λ (t : HostTable). IsAccount (setup_in t) marks (views_of session.seats.items) (known_in session)) table
    (subst (λ (s : Service). IsAccount (setup_in c.in-Ok.table) marks (views_of session.seats.items)
    (view_in s)) c.into_ended-table.ensures.service
    (subst (λ v. IsAccount (setup_in c.in-Ok.table) marks (views_of v.items)
    (view_in c.into_ended-table.result.service)) c.into_ended-table.ensures.seats c.take_apart.ensures.account)) in
    let goes : GoesOn (known_by_pass session.pass) (known_in session) =
    subst (λ (s : Service). GoesOn (known_by_pass session.pass) (view_in s)) c.into_ended-table.ensures.service
    (subst (λ (p : ReadPass). GoesOn (known_by_pass p)
    (view_in c.into_ended-table.result.service)) c.into_ended-table.ensures.pass c.take_apart.ensures.goes_on) in
    let serves : Serves (session_table session) c.into_ended-table.result.service =
    subst (λ (s : Service). Serves (session_table session) s) (sym c.into_ended-table.ensures.service) c.requires.session.serves in
    record {
      closed = λ _. record {
        whole = λ bytes given whole.
            given.trace ∙ ap (λ (rest : List ℕ). bytes ++ rest) (given.waits whole ∙ c.requires.handed whole) ∙ append-nil bytes;
        faithful = closed_faithful session c.requires.session c.requires.stopped marks account c.every_schedule_is_faithful.ensures
            c.serving_is_in_order.ensures goes;
        many = c.count_losses.ensures.many ∙ c.requires.room;
        lost = λ place seat one there got few.
            let within = slice_get_within c.count_losses.new.losses place one got in
            let long = c.count_losses.ensures.many in
            closed_lost session c.requires.session c.requires.stopped marks account c.every_packet_is_counted.ensures
            c.serving_is_in_order.ensures place seat one there
            (sym (get_or_from_slice_get c.count_losses.new.losses place one no_losses got)
            ∙ c.count_losses.ensures.each (session_table session) serves place (omega (arith, within, long))
            ∙ ap (λ (s : Service). losses_at (session_table session) s place
            (slice_index_or c.deref.result.now place none_counted)) c.into_ended-table.ensures.service
            ∙ ap (λ (cs : List Counted). losses_at (session_table session) session.service place (slice_index_or cs place none_counted))
            (c.deref.ensures.value ∙ ap (λ v. v.items) c.into_ended-table.ensures.counts))
            few goes;
      };
      uncounted = λ not. let wrong : true ≡ false = not in absurd (cc);
    }
