-- The whole room has zeros behind the payload, and so has its front.
use Rattle.std.proofs.Common.{◌≡◌, ◌∙◌, ℕ, ◌+◌, ◌-◌, ◌≤◌, List, ◌++◌, length, replicate, take, get_or, ap, arith, length-append}
use Rattle.std.proofs.lemmas.List.{length-replicate, get_or_read, with_items_is}
use Rattle.replay_host.proofs.RawLinesLemmas.{front_padded}
use Rattle.replay_host.proofs.raws.PayloadRoom.put.Goals as goal

pub returns-clause-payload : goal.returns-clause-payload
returns-clause-payload c =
    let payload : List ℕ = c.args.chunk.now.payload in
    let room : List ℕ = c.put_padded.new.room in
    let size : ℕ = c.index.result.now in
    let most : ℕ = length c.deref_mut.result.now in
    let joined = c.args.self.now.bytes.ok.0 in
    let sizes_joined = c.args.self.now.sizes.ok.0 in
    let bytes = c.deref_mut.ensures.len in
    let from = c.from.ensures in
    let low = c.requires.least in
    let high = c.requires.most in
    let read : size ≡ get_or c.args.self.now.sizes.items (c.args.producer - 1) 0 =
    get_or_read c.args.self.now.sizes.items (c.args.producer - 1) size (omega (arith, low, high))
    (c.index.ensures ∙ ap (λ (n : ℕ). get_or c.args.self.now.sizes.items (n - 1) size) from) 0 in
    let fits = c.requires.fits in
    let enough = c.requires.room.enough (c.args.producer - 1) in
    let least : length payload ≤ size = omega (arith, fits, read) in
    let below : size ≤ most = omega (arith, enough, read, bytes) in
    let filled : room ≡ payload ++ replicate (most - length payload) 0 = c.put_padded.ensures in
    let wide : length room ≡ most =
    ap (λ (xs : List ℕ). length xs) filled ∙ length-append payload (replicate (most - length payload) 0)
    ∙ ap (λ (n : ℕ). length payload + n) (length-replicate (most - length payload) 0)
    ∙ (let all : length payload + (most - length payload) ≡ most = omega (arith, least, below) in all) in
    ap (λ (xs : List ℕ). take size xs) (with_items_is c.args.self.now.bytes room (omega (arith, wide, bytes)) ∙ filled)
    ∙ front_padded payload size most least below
