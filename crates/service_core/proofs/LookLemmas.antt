-- Looks at chunks, one after another.
use Rattle.std.proofs.Common.{◌≡◌, ◌∙◌, ℕ, ◌+◌, ◌<◌, ◌≤◌, ◌⊎◌, List, [], ◌∷◌, ◌++◌, length, refl, sym, ap, subst, arith, append-nil, append_assoc, inl, inr}
use Rattle.std.proofs.Math.Logic.{⊎_swap}
use Rattle.std.proofs.lemmas.Bool.{cases_lt}
use Rattle.trace_base.proofs.Lists.{get_more, get_behind}
use Rattle.chunk_plain.specs.Setup.{Setup, range_of, producer_of, IsChunkOf}
use Rattle.chunk_plain.specs.Views.{Look, ServiceView, taken_of}
use Rattle.service_core.specs.Looking.{looked, IsAmong, LookFact, ShowsFact, SeesFact, SeesEach}
use Rattle.service_core.specs.Taking.{IsRange}

-- Which chunks

-- the chunks of a producer are those of its range, and of each longer one
pub among_range : (setup : Setup) (producer first count last chunk : ℕ) → IsRange (range_of setup producer) first count → first + count ≤ last → IsChunkOf setup producer chunk
    → IsAmong first last chunk
among_range setup producer first count last chunk range all is =
    let low = range.first_is in
    let many = range.count_is in
    let least = is.least in
    let below = is.below in
    record { least = omega (arith, low, least); below = omega (arith, low, many, below, all) }

-- in front of a chunk, or from there on
pub among_parts : (first middle last chunk : ℕ) → IsAmong first last chunk → IsAmong first middle chunk ⊎ IsAmong middle last chunk
among_parts first middle last chunk is = by_place (cases_lt chunk middle)
  where
    by_place : (chunk < middle) ⊎ (middle ≤ chunk) → IsAmong first middle chunk ⊎ IsAmong middle last chunk
    by_place (inl before) = inl (record { least = is.least; below = before })
    by_place (inr behind) = inr (record { least = behind; below = is.below })

-- What the looks show

module _ (Fact : LookFact) (setup : Setup) (place : ℕ) where
  pub shows_left : (count chunk : ℕ) (looks more : List Look) → ShowsFact Fact setup place count chunk looks → ShowsFact Fact setup place count chunk (looks ++ more)
  shows_left count chunk looks more s =
      record { n = s.n; look = s.look; at = get_more looks more s.n s.look s.at; chunk_is = s.chunk_is; since = s.since; shows = s.shows }

  pub shows_right : (count chunk : ℕ) (before looks : List Look) → ShowsFact Fact setup place count chunk looks → ShowsFact Fact setup place count chunk (before ++ looks)
  shows_right count chunk before looks s =
      record { n = length before + s.n; look = s.look; at = get_behind before looks s.n s.look s.at; chunk_is = s.chunk_is; since = s.since; shows = s.shows }

  pub sees_begin : (first : ℕ) (view : ServiceView) → SeesEach Fact setup place (IsAmong first first) view view
  sees_begin first view = record {
    looks = [];
    view = ap (λ (l : List Look). record view { looks = l }) (sym (append-nil view.looks));
    each = λ chunk is. let least = is.least in let below = is.below in absurd (omega (arith, least, below));
  }

  -- looks behind others, which leave what was taken
  sees_behind : (IsFirst IsSecond IsOne : ℕ → Type 0) (old mid new : ServiceView) → SeesEach Fact setup place IsFirst old mid → SeesEach Fact setup place IsSecond mid new
      → ((chunk : ℕ) → IsOne chunk → IsFirst chunk ⊎ IsSecond chunk) → SeesEach Fact setup place IsOne old new
  sees_behind IsFirst IsSecond IsOne old mid new first second parts = record {
    looks = first.looks ++ second.looks;
    view = second.view ∙ ap (λ (v : ServiceView). looked v second.looks) first.view
        ∙ ap (λ (l : List Look). record old { looks = l }) (append_assoc old.looks first.looks second.looks);
    each = λ chunk is. by_part chunk (parts chunk is);
  }
    where
      by_part : (chunk : ℕ) → IsFirst chunk ⊎ IsSecond chunk → ShowsFact Fact setup place (taken_of old place).count chunk (first.looks ++ second.looks)
      by_part chunk (inl is) = shows_left (taken_of old place).count chunk first.looks second.looks (first.each chunk is)
      by_part chunk (inr is) =
          shows_right (taken_of old place).count chunk first.looks second.looks
          (subst (λ (n : ℕ). ShowsFact Fact setup place n chunk second.looks) (ap (λ (v : ServiceView). (taken_of v place).count) first.view) (second.each chunk is))

  -- a chunk that was looked at is the one from it up to the next
  sees_one : (chunk : ℕ) (old new : ServiceView) → SeesFact Fact setup place chunk old new → SeesEach Fact setup place (IsAmong chunk (chunk + 1)) old new
  sees_one chunk old new seen = record {
    looks = seen.look ∷ [];
    view = seen.view;
    each = λ other is.
        let least = is.least in
        let below = is.below in
        let same : chunk ≡ other = omega (arith, least, below) in
        record { n = 0; look = seen.look; at = refl; chunk_is = seen.chunk_is ∙ same; since = seen.since; shows = seen.shows };
  }

  -- one chunk more
  pub sees_more : (first chunk : ℕ) (old mid new : ServiceView) → SeesEach Fact setup place (IsAmong first chunk) old mid → SeesFact Fact setup place chunk mid new
      → SeesEach Fact setup place (IsAmong first (chunk + 1)) old new
  sees_more first chunk old mid new seen one =
      sees_behind (IsAmong first chunk) (IsAmong chunk (chunk + 1)) (IsAmong first (chunk + 1)) old mid new seen (sees_one chunk mid new one) (among_parts first chunk (chunk + 1))

  -- one stretch of chunks, and then the one in front of it
  pub sees_both : (first middle last : ℕ) (old mid new : ServiceView) → SeesEach Fact setup place (IsAmong middle last) old mid → SeesEach Fact setup place (IsAmong first middle) mid new
      → SeesEach Fact setup place (IsAmong first last) old new
  sees_both first middle last old mid new high low =
      sees_behind (IsAmong middle last) (IsAmong first middle) (IsAmong first last) old mid new high low (λ chunk is. ⊎_swap (among_parts first middle last chunk is))

  -- fewer of them
  pub sees_fewer : (first last more : ℕ) (old new : ServiceView) → last ≤ more → SeesEach Fact setup place (IsAmong first more) old new → SeesEach Fact setup place (IsAmong first last) old new
  sees_fewer first last more old new most seen = record {
    looks = seen.looks;
    view = seen.view;
    each = λ chunk is. let below = is.below in seen.each chunk (record { least = is.least; below = omega (arith, below, most) });
  }

  -- all chunks of the writer's producer
  pub sees_all : (first count last : ℕ) (old new : ServiceView) → IsRange (range_of setup (producer_of setup place)) first count → first + count ≤ last
      → SeesEach Fact setup place (IsAmong first last) old new → SeesEach Fact setup place (IsChunkOf setup (producer_of setup place)) old new
  sees_all first count last old new range all seen = record {
    looks = seen.looks;
    view = seen.view;
    each = λ chunk is. seen.each chunk (among_range setup (producer_of setup place) first count last chunk range all is);
  }
