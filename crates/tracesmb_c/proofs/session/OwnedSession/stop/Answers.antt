-- The writers are home, so all that they began is taken once they told of it, and no sequence was closed before.
use Rattle.std.proofs.Common.{◌≡◌, ◌∙◌, ℕ, ◌<◌, ◌≤◌, true, length, refl, sym, ap, subst}
use Rattle.chunk_plain.specs.Views.{At, taken_of}
use Rattle.chunk_words.specs.declared.host.HostTable.{HostTable}
use Rattle.chunk_words.specs.Knows.{Tale}
use Rattle.chunk_words.specs.Sits.{setup_in}
use Rattle.service_core.specs.Agreement.{is_closed, KeepsRest}
use Rattle.thread_service.specs.Serving.{Serves, core_of, view_in, desk_in}
use Rattle.thread_service.specs.Settling.{IsWholeTale}
use Rattle.tracesmb_c.specs.Ending.{AreThere, AreLeft, HaveRoom}
use Rattle.tracesmb_c.specs.Sessions.{AreHome}
use Rattle.tracesmb_c.proofs.StopLemmas.{stopped_session, has_stopped}
use Rattle.tracesmb_c.proofs.session.OwnedSession.stop.Goals as goal

pub end_writers-requires-clause-there : goal.end_writers-requires-clause-there
end_writers-requires-clause-there c = subst (λ v. AreThere v.items) (sym c.replace-homes.ensures.value) c.requires.home

pub end_writers-requires-clause-home : goal.end_writers-requires-clause-home
end_writers-requires-clause-home c =
    subst (λ v. AreHome c.deref.result.now v.items) (sym c.replace-homes.ensures.value)
    (subst (λ (t : HostTable). AreHome t c.args.self.now.homes.items) (sym c.deref.ensures)
    (c.requires.session.goes_on c.requires.open).homes)

pub end_writers-requires-clause-room : goal.end_writers-requires-clause-room
end_writers-requires-clause-room c =
    let goes = c.requires.session.goes_on c.requires.open in
    subst (λ (n : ℕ). HaveRoom n c.args.self.now.seats c.args.self.now.counts)
    (sym (ap (λ v. length v.items) c.replace-homes.ensures.value ∙ goes.many)) goes.room

pub close_all-requires-clause-producers : goal.close_all-requires-clause-producers
close_all-requires-clause-producers c =
    c.requires.session.producers ∙ ap (λ (t : HostTable). length (setup_in t).ranges) (sym c.deref-3.ensures)

pub returns-clause-session : goal.returns-clause-session
returns-clause-session c =
    let old = c.args.self.now in
    let heard = c.end_writers.new.service in
    let settled = c.settle.new.self in
    let last = c.close_all.new.service in
    stopped_session old _ heard settled c.requires.session c.requires.open refl refl refl refl (record {
      serves = subst (λ (t : HostTable). Serves t last) c.deref-3.ensures c.close_all.ensures.serves;
      same = c.end_writers.ensures.same;
      left =
          subst (λ (t : HostTable). AreLeft t old.homes.items c.end_writers.new.seats.items c.end_writers.new.counts.items) c.deref.ensures
          (subst (λ v. AreLeft c.deref.result.now v.items c.end_writers.new.seats.items c.end_writers.new.counts.items)
          c.replace-homes.ensures.value c.end_writers.ensures.left);
      told = c.end_writers.ensures.told;
      keeps = subst (λ (t : HostTable). KeepsRest (setup_in t) (core_of heard) (core_of settled)) c.deref-2.ensures c.settle.ensures.keeps;
      own = c.settle.ensures.own;
      taken = subst (λ (t : HostTable). (i : ℕ) (tale : Tale) → At (desk_in heard).told i tale → IsWholeTale (setup_in t)
          (view_in heard) tale
          → length tale.begun ≤ (taken_of (view_in settled) tale.place).count) c.deref-2.ensures c.settle.ensures.taken;
      specs = c.close_all.ensures.specs;
      commits = c.close_all.ensures.commits;
      rises = c.close_all.ensures.rises;
      closed = subst (λ (t : HostTable). (place : ℕ) → place < length (setup_in t).writers
          → is_closed (setup_in t) (core_of last) place ≡ true) c.deref-3.ensures c.close_all.ensures.closed;
    })

pub returns-clause-stopped : goal.returns-clause-stopped
returns-clause-stopped c =
    let old = c.args.self.now in
    let heard = c.end_writers.new.service in
    let settled = c.settle.new.self in
    let last = c.close_all.new.service in
    has_stopped old _ heard settled c.requires.session c.requires.open refl refl refl refl (record {
      serves = subst (λ (t : HostTable). Serves t last) c.deref-3.ensures c.close_all.ensures.serves;
      same = c.end_writers.ensures.same;
      left =
          subst (λ (t : HostTable). AreLeft t old.homes.items c.end_writers.new.seats.items c.end_writers.new.counts.items) c.deref.ensures
          (subst (λ v. AreLeft c.deref.result.now v.items c.end_writers.new.seats.items c.end_writers.new.counts.items)
          c.replace-homes.ensures.value c.end_writers.ensures.left);
      told = c.end_writers.ensures.told;
      keeps = subst (λ (t : HostTable). KeepsRest (setup_in t) (core_of heard) (core_of settled)) c.deref-2.ensures c.settle.ensures.keeps;
      own = c.settle.ensures.own;
      taken = subst (λ (t : HostTable). (i : ℕ) (tale : Tale) → At (desk_in heard).told i tale → IsWholeTale (setup_in t)
          (view_in heard) tale
          → length tale.begun ≤ (taken_of (view_in settled) tale.place).count) c.deref-2.ensures c.settle.ensures.taken;
      specs = c.close_all.ensures.specs;
      commits = c.close_all.ensures.commits;
      rises = c.close_all.ensures.rises;
      closed = subst (λ (t : HostTable). (place : ℕ) → place < length (setup_in t).writers
          → is_closed (setup_in t) (core_of last) place ≡ true) c.deref-3.ensures c.close_all.ensures.closed;
    })
