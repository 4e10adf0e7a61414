-- A writer agrees with its view whatever it knows of flush requests.
use Rattle.std.proofs.Common.{◌≡◌, ℕ, ◌∙◌, List, [], length, ap, sym, refl}
use Rattle.trace_model.specs.Packets.{Account, account_of}
use Rattle.commit_body.specs.Pending.{Pending}
use Rattle.chunk_plain.specs.Setup.{Setup}
use Rattle.chunk_plain.specs.Views.{BegunChunk, Letters, WriterView}
use Rattle.trace_writer.specs.declared.chunk.HeldChunk.{HeldChunk}
use Rattle.trace_writer.specs.declared.state.State.{State}
use Rattle.trace_writer.specs.declared.state.State.TheVariants.{Idle, Between, Writing, Dropping, Stalled}
use Rattle.trace_writer.specs.declared.state.Writer.{Writer}
use Rattle.trace_writer.specs.Agreement.{StateAgrees}
use Rattle.trace_writer.specs.Core.{WriterAgrees}
use Rattle.trace_writer.specs.Site.{Site, site_of}
use Rattle.trace_writer.specs.States.{IsBehind}
use Rattle.trace_writer.proofs.accounts.Agreeing.{idle_seen, stuck_seen}
use Rattle.trace_writer.proofs.packets.RunOn.{inside_seen}

behind_seen : (site : Site) (account : Account) (view new : WriterView) (pending : Pending) (chunk : HeldChunk) → new.begun ≡ view.begun
    → IsBehind site account view pending chunk → IsBehind site account new pending chunk
behind_seen site account view new pending chunk same b = record {
  pages = b.pages;
  first = b.first;
  others = b.others;
  completed = b.completed;
  draft = b.draft;
  begun = same ∙ b.begun;
  before = b.before;
  last = b.last;
  parts = b.parts;
  sealed = b.sealed;
  drafted = b.drafted;
  shown = b.shown;
  position = b.position;
  sized = b.sized;
  whole = b.whole;
  filled = b.filled;
  holes = b.holes;
  few = b.few;
  continues_is = b.continues_is;
  between = b.between;
  fresh = b.fresh;
}

state_seen : (site : Site) (account : Account) (view new : WriterView) (pending : Pending) (at : State) → new.begun ≡ view.begun
    → StateAgrees site account view pending at → StateAgrees site account new pending at
state_seen site account view new pending (Idle next_position) same is = (is.0 ∙ ap (λ (l : List BegunChunk). length l) (sym same), idle_seen site account view new pending same is.1)
state_seen site account view new pending (Between chunk) same is = behind_seen site account view new pending chunk same is
state_seen site account view new pending (Writing fragment) same is = record {
  packet = is.packet;
  older = is.older;
  packets = is.packets;
  unflushed = is.unflushed;
  inside = inside_seen site is.packet is.older view new pending fragment [] same is.inside;
  byte = is.byte;
  ids = is.ids;
}
state_seen site account view new pending (Dropping next_position) same is = (
  is.0 ∙ ap (λ (l : List BegunChunk). length l) (sym same),
  record {
    packet = is.1.packet;
    older = is.1.older;
    packets = is.1.packets;
    unflushed = is.1.unflushed;
    lost = is.1.lost;
    idle = idle_seen site account view new pending same is.1.idle;
  },
)
state_seen site account view new pending (Stalled next_position) same is = (is.0 ∙ ap (λ (l : List BegunChunk). length l) (sym same), stuck_seen site account.packets view new same is.1)

pub letters_agree : (setup : Setup) (place : ℕ) (view : WriterView) (letters : Letters) (one : Writer) → WriterAgrees setup place view one
    → WriterAgrees setup place (record view { letters = letters }) one
letters_agree setup place view letters one agrees =
    let new : WriterView = record view { letters = letters } in let writes = agrees.writes in let claims = agrees.claims in
    record {
      writes = record {
        route = writes.route;
        state = state_seen (site_of setup place one.route) (account_of view.calls) view new one.pending one.state refl writes.state;
        packet = writes.packet;
        inside = writes.inside;
        follows = writes.follows;
        begun = writes.begun;
        dropped = writes.dropped;
      };
      claims = record { unclaimed = claims.unclaimed; unstamped = claims.unstamped; own_asks = claims.own_asks; own_chunks = claims.own_chunks; vain = claims.vain; stalls = claims.stalls };
      possible = agrees.possible;
      holds = agrees.holds;
    }
