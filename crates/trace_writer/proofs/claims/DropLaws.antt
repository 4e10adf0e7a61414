-- A writer that loses packets never stalls.
use Rattle.std.proofs.Common.{◌≡◌, ◌≢◌, false, refl}
use Rattle.trace_base.specs.declared.policy.WriterPolicy.TheVariants.{Stalls}
use Rattle.trace_model.specs.Packets.{Account, account_of}
use Rattle.commit_body.specs.Pending.{Pending}
use Rattle.chunk_plain.specs.Views.{WriterView}
use Rattle.trace_writer.specs.declared.state.State.{State}
use Rattle.trace_writer.specs.declared.state.State.TheVariants.{Idle, Between, Writing, Dropping, Stalled}
use Rattle.trace_writer.specs.Agreement.{StateAgrees}
use Rattle.trace_writer.specs.Empty.{is_stalled}
use Rattle.trace_writer.specs.Laws.{DropsNeverStall}
use Rattle.trace_writer.specs.Site.{Site, site_of}

state_goes : (site : Site) (account : Account) (view : WriterView) (pending : Pending) (state : State)
    → StateAgrees site account view pending state → site.policy ≢ Stalls → is_stalled state ≡ false
state_goes site account view pending (Idle next_position) agrees drops = refl
state_goes site account view pending (Between chunk) agrees drops = refl
state_goes site account view pending (Writing fragment) agrees drops = refl
state_goes site account view pending (Dropping next_position) agrees drops = refl
state_goes site account view pending (Stalled next_position) agrees drops = absurd (drops agrees.1.stalls)

pub drops_never_stall : DropsNeverStall
drops_never_stall setup place view writer agrees drops =
    state_goes (site_of setup place writer.route) (account_of view.calls) view writer.pending writer.state agrees.writes.state drops
