use Rattle.std.proofs.Common.{◌≡◌, ℕ, suc, ◌+◌, ◌-◌, ◌<◌, ◌≤◌, ◌==◌, ◌^◌, ◌&&◌, not, Bool, List, length, drop, refl, sym, ap, ap₂, ◌∙◌, subst, arith}
use Rattle.trace_model.specs.Images.{Fragment, has_flag_2}
use Rattle.trace_model.specs.Reading.{fragment_end}
use Rattle.trace_model.specs.Row.{is_last}
use Rattle.chunk_image.specs.Values.{fragment_value}
use Rattle.sequence_reader.specs.Runs.{MayBePlain}
use Rattle.sequence_reader.specs.Spots.{start_from, reach_of}
use Rattle.sequence_reader.specs.declared.spot.Spot.{Spot}
use Rattle.sequence_reader.specs.Steps.{spot_behind}
use Rattle.sequence_reader.proofs.FragmentLemmas.{rest_fits, some_read, none_read, left_none}
use Rattle.sequence_reader.proofs.PresentLemmas.{fragments_at, stands, offset_within, reach_further, reach_near}
use Rattle.sequence_reader.proofs.run.plain_at.Goals as goal

pub slice_bounds-read_fragment-count : goal.slice_bounds-read_fragment-count
slice_bounds-read_fragment-count c =
    let may = c.may_be_plain.ensures c.if-not-may_be_plain.false in
    offset_within c.args.key.count c.args.payload.now c.args.spot
    (stands c.args.key c.args.payload.now c.args.closed c.args.spot c.requires.reads c.requires.fits may.there)

pub slice_bounds-read_fragment-start : goal.slice_bounds-read_fragment-start
slice_bounds-read_fragment-start c = slice_bounds-read_fragment-count c

pub read_fragment-requires : goal.read_fragment-requires
read_fragment-requires c =
    let may = c.may_be_plain.ensures c.if-not-may_be_plain.false in
    rest_fits c.args.payload.now c.args.spot.offset c.requires.small
    (offset_within c.args.key.count c.args.payload.now c.args.spot
    (stands c.args.key c.args.payload.now c.args.closed c.args.spot c.requires.reads c.requires.fits may.there))

pub unreachable-requires : goal.unreachable-requires
unreachable-requires c =
    let k : ℕ = c.args.spot.passed in
    let fs : List Fragment = fragments_at c.args.key.count c.args.payload.now in
    let may = c.may_be_plain.ensures c.if-not-may_be_plain.false in
    let s = stands c.args.key c.args.payload.now c.args.closed c.args.spot c.requires.reads c.requires.fits may.there in
    none_read c.args.payload.now (c.args.key.count - suc k) (start_from 0 k fs) c.args.spot.offset (drop k fs) s.next s.at
    (k + 1 == c.args.key.count) c.read_fragment.result (sym (left_none k c.args.key.count may.there)) c.read_fragment.ensures.value c.in_default.is

pub returns : goal.returns
returns c =
    let k : ℕ = c.args.spot.passed in
    let fs : List Fragment = fragments_at c.args.key.count c.args.payload.now in
    let may : MayBePlain c.args.key k = c.may_be_plain.ensures c.if-not-may_be_plain.false in
    let s = stands c.args.key c.args.payload.now c.args.closed c.args.spot c.requires.reads c.requires.fits may.there in
    let same : fragment_value c.in-Some.fragment ≡ s.next.fragment =
    some_read c.args.payload.now (c.args.key.count - suc k) (start_from 0 k fs) c.args.spot.offset (drop k fs) s.next s.at
    (k + 1 == c.args.key.count) c.read_fragment.result c.in-Some.fragment (sym (left_none k c.args.key.count may.there)) c.read_fragment.ensures.value c.in-Some.is in
    let end : ℕ = fragment_end s.next.fragment in
    let ended : Bool = is_last s.next.others && not (c.args.key.partial && not c.args.closed) in
    let behind : c.spot_behind.result ≡ spot_behind c.args.spot end ended =
    c.spot_behind.ensures
    ∙ ap₂ (spot_behind c.args.spot) (ap fragment_end same)
    (c.both.ensures ∙ ap₂ (λ a b. a && not b) (sym s.last) c.both-stays.ensures) in
    let start : c.args.spot.offset ≡ start_from 0 k fs = s.at in
    let after : start_from 0 k fs < s.next.fragment.offset = s.next.after in
    let bytes : s.next.fragment.bytes ≡ c.in-Some.fragment.bytes.now = ap (λ (f : Fragment). f.bytes) (sym same) in
    let end_is : end ≡ s.next.fragment.offset + length c.in-Some.fragment.bytes.now = ap (λ xs. s.next.fragment.offset + length xs) bytes in
    let small : end ≤ 2 ^ 26 = omega (arith, s.next.rest.within, c.requires.small) in
    let more : c.args.spot.offset + length c.in-Some.fragment.bytes.now < end = omega (arith, start, after, end_is) in
    record {
      here = record {
        fragment = s.next.fragment;
        others = s.next.others;
        here = s.next.split;
        bytes = bytes;
        dropped = ap (λ (f : Fragment). f.dropped) (sym same) ∙ c.if-fragment.false;
        headless = sym may.begins;
        runs_on = sym may.ends ∙ ap (λ b. has_flag_2 c.args.key.flags && b) (sym s.last);
        awaits = sym may.done ∙ ap (λ b. c.args.key.awaits && b) (sym s.last);
        unstopped = ap (λ b. b && not c.args.closed) (ap (λ b. c.args.key.awaits && b) s.last ∙ may.done);
        behind = behind;
        further = subst (λ (b : Spot). reach_of c.args.spot + length c.in-Some.fragment.bytes.now < reach_of b) (sym behind)
            (reach_further c.args.spot end (length c.in-Some.fragment.bytes.now) ended more small);
        near = subst (λ (b : Spot). reach_of b ≤ 2 ^ 59) (sym behind) (reach_near c.args.spot end ended c.requires.low small);
      };
      plain = record {
        undropped = refl;
        begins = refl;
        ends = refl;
        done = refl;
        accepted = sym c.accepts_packet.ensures ∙ c.if-not-accepts_packet.false;
      };
    }
