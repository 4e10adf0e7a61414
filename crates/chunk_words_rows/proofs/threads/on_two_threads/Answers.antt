use Rattle.std.proofs.Common.{◌≡◌, ◌∙◌, ℕ, ◌<◌, subst, sym, ap, arith}
use Rattle.chunk_plain.specs.Setup.{IsChunkOf, producer_of, from_of}
use Rattle.chunk_words.specs.Sits.{setup_in}
use Rattle.chunk_words_rows.proofs.threads.on_two_threads.Goals as goal

pub join-one-requires-after_bounds : goal.join-one-requires-after_bounds
join-one-requires-after_bounds g c κs lives =
    let setup = setup_in c.args.host.now in
    let own : (place seat_place : ℕ) → seat_place ≡ place → place < 2 → (chunk : ℕ) → chunk < 14 → IsChunkOf setup (producer_of setup seat_place) chunk
    = λ place seat_place same inside chunk below. subst (λ p. IsChunkOf setup (producer_of setup p) chunk) (sym same) (c.requires.page.chunks chunk place inside below) in
    let from : (place seat_place : ℕ) → seat_place ≡ place → place < 2 → from_of setup seat_place ≡ 4294967000 = λ place seat_place same inside. ap (from_of setup) same ∙ c.requires.page.froms place inside in (
      (λ _ _ _ _. (c.requires.first.1, (c.requires.first.2, (own 0 c.args.first.place c.requires.first.0 (omega arith), (from 0 c.args.first.place c.requires.first.0 (omega arith), omega arith))))),
      (λ _ _ _ _. (c.requires.second.1, (c.requires.second.2, (own 1 c.args.second.place c.requires.second.0 (omega arith), (from 1 c.args.second.place c.requires.second.0 (omega arith), omega arith))))),
    )
