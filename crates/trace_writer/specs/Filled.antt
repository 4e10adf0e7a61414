-- What the payload of a held chunk holds, and what the completed chunks show.
use Rattle.std.specs.Prelude.{◌≡◌, ℕ, suc, ◌+◌, ◌<◌, true, List, [], ◌∷◌, ◌++◌, length, ⊤}
use Rattle.std.specs.List.{flat_map}
use Rattle.trace_model.specs.Pages.{Page, framed, image_of}
use Rattle.chunk_plain.specs.Views.{BegunChunk, Held, Completed}
use Rattle.trace_writer.specs.declared.fragment.OpenFragment.{OpenFragment}
use Rattle.trace_writer.specs.Site.{Site}

-- fragments with their sizes in front
abbrev pub frames : List (List ℕ) → List ℕ
frames fragments = flat_map framed fragments

-- the payload is filled up to a place by these fragments
pub record IsFilled (payload : List ℕ) (at count : ℕ) (done : List (List ℕ)) : Type 0 where
  pub rest : List ℕ
  pub payload_is : payload ≡ frames done ++ rest
  pub at_is : at ≡ length (frames done)
  pub count_is : count ≡ length done

-- The payload has these fragments, and then four bytes for the size of the one that is written and its bytes so far.
pub record HasOpenFragment (payload : List ℕ) (start at count : ℕ) (done : List (List ℕ)) (now : List ℕ) : Type 0 where
  pub four : List ℕ
  pub rest : List ℕ
  pub four_is : length four ≡ 4
  pub payload_is : payload ≡ frames done ++ (four ++ (now ++ rest))
  pub start_is : start ≡ length (frames done)
  pub at_is : at ≡ start + 4 + length now
  pub count_is : count ≡ length done + 1

-- these chunks, at the positions from this one on, were completed with these pages
abbrev pub ShowsPages : Site → ℕ → List BegunChunk → List Page → Type 0
ShowsPages site position [] [] = ⊤
ShowsPages site position [] (page ∷ pages) = ⊥
ShowsPages site position (Held chunk head ∷ begun) pages = ⊥
ShowsPages site position (Completed chunk content ∷ begun) [] = ⊥
ShowsPages site position (Completed chunk content ∷ begun) (page ∷ pages) =
    (content ≡ record { image = image_of (site.place + 2) position page; patches = page.patches; target = site.buffer })
    × ShowsPages site (suc position) begun pages

-- the first fragment of a chunk that continues a packet has a byte
abbrev pub HasByte : OpenFragment → Type 0
HasByte fragment = fragment.continues ≡ true → fragment.start ≡ 0 → 4 < fragment.at
