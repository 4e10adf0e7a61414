-- A call's part of a packet, made of pieces and a nested length.
use Rattle.std.proofs.Common.{◌≡◌, ◌∙◌, ℕ, ◌+◌, ◌*◌, List, [], ◌++◌, length, sym, ap, subst, arith, append-nil, length-append}
use Rattle.std.specs.List.{repeat}
use Rattle.trace_model.specs.Packets.{Packet, with_more}
use Rattle.trace_model.proofs.EncodingLemmas.{length-repeat}
use Rattle.commit_body.specs.Pending.{Pending}
use Rattle.chunk_plain.specs.Setup.{Setup}
use Rattle.chunk_plain.specs.Views.{WriterView}
use Rattle.cut_steps.specs.Writing.{with_open}
use Rattle.trace_writer.specs.declared.flow.Flow.{Flow}
use Rattle.trace_writer.specs.declared.flow.Flow.TheVariants.{Going, Stopped}
use Rattle.trace_writer.specs.declared.fragment.OpenFragment.{OpenFragment}
use Rattle.trace_writer.specs.declared.route.Route.{Route}
use Rattle.trace_writer.specs.Site.{Site, site_of}
use Rattle.trace_writer.specs.Ids.{HasIds}
use Rattle.trace_writer.specs.Flows.{PutsOn, StopsIn, Flows, SetsLength, WritesOn, CannotWrite, Writes, IsStopped}
use Rattle.trace_writer.proofs.packets.Putting.{puts_both, lost_behind}

-- Bytes

puts_write : (site : Site) (old new : WriterView) (before after : Pending) (fragment next : OpenFragment) (bytes : List ℕ) (count : ℕ) → length bytes ≡ count
    → PutsOn site old new before after fragment next bytes → WritesOn site old new before after fragment next count (with_more bytes)
puts_write site old new before after fragment next bytes count count_is puts = record {
  calls = puts.calls;
  keeps = puts.keeps;
  ids = λ further h. puts.ids further (subst (λ (n : ℕ). HasIds fragment (n + further)) (sym count_is) h);
  byte = puts.byte;
}

lost_write : (site : Site) (old new : WriterView) (before after : Pending) (fragment : OpenFragment) (bytes : List ℕ)
    → StopsIn site old new before after fragment bytes → CannotWrite site old new before after fragment (with_more bytes)
lost_write site old new before after fragment bytes lost = record {
  calls = lost.calls;
  stopped = λ packet older i.
      subst (λ (xs : List ℕ). IsStopped site (with_more xs packet) older new after) (append-nil bytes) (lost.stopped packet older [] i);
}

pub field_long : (head text : List ℕ) (times : ℕ) → length (head ++ repeat times text) ≡ length head + times * length text
field_long head text times = length-append head (repeat times text) ∙ ap (λ (n : ℕ). length head + n) (length-repeat times text)

-- the second of two pieces goes on or not
pub writes_behind : (setup : Setup) (place : ℕ) (route : Route) (old mid new : WriterView) (before between after : Pending) (fragment now : OpenFragment)
    (one two : List ℕ) (count : ℕ) (flow : Flow) → length (one ++ two) ≡ count
    → PutsOn (site_of setup place route) old mid before between fragment now one → Flows setup place route mid new between after now two flow
    → Writes setup place route old new before after fragment count (with_more (one ++ two)) flow
writes_behind setup place route old mid new before between after fragment now one two count (Going next) count_is first second =
    puts_write (site_of setup place route) old new before after fragment next (one ++ two) count count_is
    (puts_both (site_of setup place route) old mid new before between after fragment now next one two first second)
writes_behind setup place route old mid new before between after fragment now one two count (Stopped next_position) count_is first lost = (
  lost_write (site_of setup place route) old new before after fragment (one ++ two)
      (lost_behind (site_of setup place route) old mid new before between after fragment now one two [] (one ++ two)
      (ap (λ (xs : List ℕ). one ++ xs) (sym (append-nil two))) first lost.0),
  lost.1,
)

-- A tag and a length

-- the length goes on behind the tag, or not
pub writes_nested : (setup : Setup) (place : ℕ) (route : Route) (old mid new : WriterView) (before between after : Pending) (fragment now : OpenFragment)
    (tag : List ℕ) (flow : Flow)
    → PutsOn (site_of setup place route) old mid before between fragment now tag → SetsLength setup place route mid new between after now flow
    → Writes setup place route old new before after fragment (length tag + 4) (λ (packet : Packet). with_open (with_more tag packet)) flow
writes_nested setup place route old mid new before between after fragment now tag (Going next) first second = record {
  calls = second.calls ∙ first.calls;
  keeps = λ packet older i. second.keeps (with_more tag packet) older (first.keeps packet older i);
  ids = λ further h. second.ids further (first.ids (4 + further) (subst (λ (n : ℕ). HasIds fragment n) (omega arith) h));
  byte = λ h. second.byte;
}
writes_nested setup place route old mid new before between after fragment now tag (Stopped next_position) first lost = (
  record {
    calls = lost.0.calls ∙ first.calls;
    stopped = λ packet older i. lost.0.stopped (with_more tag packet) older (first.keeps packet older i);
  },
  lost.1,
)

-- the tag doesn't
pub nested_lost : (site : Site) (old new : WriterView) (before after : Pending) (fragment : OpenFragment) (tag : List ℕ)
    → StopsIn site old new before after fragment tag
    → CannotWrite site old new before after fragment (λ (packet : Packet). with_open (with_more tag packet))
nested_lost site old new before after fragment tag lost = record {
  calls = lost.calls;
  stopped = λ packet older i.
      subst (λ (xs : List ℕ). IsStopped site (with_open (with_more xs packet)) older new after) (append-nil tag) (lost.stopped_nested packet older [] i);
}
