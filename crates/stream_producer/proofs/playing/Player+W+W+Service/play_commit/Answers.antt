-- A commit is one call of the service.
use Rattle.std.proofs.Common.{◌≡◌, ◌∙◌, ℕ, ◌+◌, ◌-◌, true, false, List, map, sym, ap, arith}
use Rattle.trace_model.specs.Counts.{raised, one_if}
use Rattle.trace_model.proofs.CountedLemmas.{raised-none}
use Rattle.trace_model.specs.Images.{Image, Patch}
use Rattle.commit_body.specs.Patches.{patch_value}
use Rattle.stream_frames.specs.Frames as frames
use Rattle.stream_frames.specs.Values.{limits_value, commit_value}
use Rattle.stream_producer.specs.History.{source_of}
use Rattle.stream_producer.proofs.CallLemmas.{payload_long, image_shown, commit_played}
use Rattle.stream_producer.proofs.playing.Player+W+W+Service.play_commit.Goals as goal

pub commit-answer-requires-clause-image : goal.commit-answer-requires-clause-image
commit-answer-requires-clause-image g c =
    let from = c.from-2.ensures in
    let frame = c.requires.frame in
    let least = frame.least in
    let most = frame.most in
    let many = c.requires.fits.many in
    record {
      least = omega (arith, from, least);
      most = omega (arith, from, most, many);
      is_open = c.requires.stands.opened (c.from-2.result + 1 - 2) (omega (arith, from, least, most, many));
      size = payload_long g.W.Words.means (limits_value c.args.limits.now) (commit_value c.args.commit) c.args.self.now c.args.self.now c.requires.stands
          c.requires.fits frame c.deref.result.now c.from.result c.from-2.result c.deref-2.result.now
          c.deref.ensures.0 c.from.ensures from (c.deref-2.ensures.value ∙ c.fill.ensures.bytes);
      count = frame.header.count;
      flags = frame.header.flags;
    }

pub returns-then-is_refused : goal.returns-then-is_refused
returns-then-is_refused g c = record {
  plays = λ taken.
      let means = g.W.Words.means in
      let old = c.args.self.now in
      let limits : frames.Limits = limits_value c.args.limits.now in
      let commit : frames.Commit = commit_value c.args.commit in
      let call = c.commit-answer in
      let place : ℕ = c.from-2.result + 1 - 2 in
      let from = c.from-2.ensures in
      let here : place ≡ source_of commit = omega (arith, from) in
      let image : Image = record {
        sequence = c.from-2.result + 1;
        chunk_id = commit.header.chunk_id;
        count = commit.header.count;
        flags = commit.header.flags;
        payload = c.deref-2.result.now;
      } in
      let patches : List Patch = map patch_value c.deref-3.result.now in
      let given : patches ≡ commit.patches = ap (map patch_value) c.deref-3.ensures.0 ∙ c.put_into.ensures in
      let fits = c.fits-self in
      let counted = c.saturating_add-self.ensures in
      let commits : c.saturating_add-self.result ≡ raised old.commits 1 = omega (arith, counted, fits) in
      let more = c.saturating_add-self-then-is_refused.ensures in
      let raises : c.saturating_add-self-then-is_refused.result ≡ raised old.refused (one_if true) = omega (arith, more, fits) in
      commit_played means limits commit old _ c.requires.stands call.result true place image patches here
      (image_shown means limits commit old old c.requires.stands c.deref.result.now c.from.result c.from-2.result c.deref-2.result.now
      c.deref.ensures.0 c.from.ensures c.from-2.ensures (c.deref-2.ensures.value ∙ c.fill.ensures.bytes))
      given call.ensures.leaves.service.agrees call.ensures.leaves.service.step call.ensures.leaves.service.keeps call.ensures.wrong call.ensures.outcome call.ensures.noted
      (sym c.if-is_refused.true ∙ c.is_refused.ensures)
      commits raises taken;
}

pub returns-else-is_refused : goal.returns-else-is_refused
returns-else-is_refused g c = record {
  plays = λ taken.
      let means = g.W.Words.means in
      let old = c.args.self.now in
      let limits : frames.Limits = limits_value c.args.limits.now in
      let commit : frames.Commit = commit_value c.args.commit in
      let call = c.commit-answer in
      let place : ℕ = c.from-2.result + 1 - 2 in
      let from = c.from-2.ensures in
      let here : place ≡ source_of commit = omega (arith, from) in
      let image : Image = record {
        sequence = c.from-2.result + 1;
        chunk_id = commit.header.chunk_id;
        count = commit.header.count;
        flags = commit.header.flags;
        payload = c.deref-2.result.now;
      } in
      let patches : List Patch = map patch_value c.deref-3.result.now in
      let given : patches ≡ commit.patches = ap (map patch_value) c.deref-3.ensures.0 ∙ c.put_into.ensures in
      let fits = c.fits-self in
      let counted = c.saturating_add-self.ensures in
      let commits : c.saturating_add-self.result ≡ raised old.commits 1 = omega (arith, counted, fits) in
      let raises : old.refused ≡ raised old.refused (one_if false) = sym (raised-none old.refused) in
      commit_played means limits commit old _ c.requires.stands call.result false place image patches here
      (image_shown means limits commit old old c.requires.stands c.deref.result.now c.from.result c.from-2.result c.deref-2.result.now
      c.deref.ensures.0 c.from.ensures c.from-2.ensures (c.deref-2.ensures.value ∙ c.fill.ensures.bytes))
      given call.ensures.leaves.service.agrees call.ensures.leaves.service.step call.ensures.leaves.service.keeps call.ensures.wrong call.ensures.outcome call.ensures.noted
      (sym c.if-is_refused.false ∙ c.is_refused.ensures)
      commits raises taken;
}
