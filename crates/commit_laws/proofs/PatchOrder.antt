-- Patches that all stand in what they lead to lead to the same in whatever order.
use Rattle.std.proofs.Common.{◌≡◌, ◌∙◌, ℕ, ◌+◌, ◌-◌, ◌<◌, ◌≤◌, ◌⊎◌, Bool, true, false, ◌&&◌, ◌||◌, List, [], ◌∷◌, ◌++◌, length, take, drop, get_or, refl, sym, ap, arith, inl, inr, length-append}
use Rattle.std.specs.Prelude.{cond, ◌==◌, nat_le, nat_lt}
use Rattle.std.specs.List.{list_any}
use Rattle.std.proofs.lemmas.Bool.{false≢true, cases_lt, and_from, le-leb, lt-ltb, le-ltb, leb-true}
use Rattle.std.proofs.lemmas.List.{ext_get_or, get_or_append_left, get_or-append_right, get_or-take, get_or-drop, length-take, length-drop}
use Rattle.trace_model.specs.Images.{Patch, with_bytes}
use Rattle.trace_model.proofs.CursorLemmas.{Each}
use Rattle.commit_laws.proofs.Standing.{Stands}

-- Bytes put in

module _ (old : List ℕ) (at : ℕ) (bytes : List ℕ) (fits : at + length bytes ≤ length old) where
  front_long : length (take at old) ≡ at
  front_long = let long = length-take at old in omega (arith, long, fits)

  both_long : length (take at old ++ bytes) ≡ at + length bytes
  both_long = let long = length-append (take at old) bytes in let front = front_long in omega (arith, long, front)

  pub put_long : length (with_bytes old at bytes) ≡ length old
  put_long =
      let whole = length-append (take at old ++ bytes) (drop (at + length bytes) old) in
      let both = both_long in
      let rest = length-drop (at + length bytes) old in
      omega (arith, whole, both, rest, fits)

  put_before : (x : ℕ) → x < at → get_or (with_bytes old at bytes) x 0 ≡ get_or old x 0
  put_before x low =
      let both = both_long in
      let front = front_long in
      get_or_append_left (take at old ++ bytes) (drop (at + length bytes) old) 0 x (omega (arith, both, low))
      ∙ get_or_append_left (take at old) bytes 0 x (omega (arith, front, low))
      ∙ get_or-take at old x 0 low

  put_here : (x : ℕ) → at ≤ x → x < at + length bytes → get_or (with_bytes old at bytes) x 0 ≡ get_or bytes (x - at) 0
  put_here x low high =
      let both = both_long in
      get_or_append_left (take at old ++ bytes) (drop (at + length bytes) old) 0 x (omega (arith, both, high))
      ∙ get_or-append_right (take at old) bytes at x 0 front_long low

  put_behind : (x : ℕ) → at + length bytes ≤ x → get_or (with_bytes old at bytes) x 0 ≡ get_or old x 0
  put_behind x high =
      let place : at + length bytes + (x - (at + length bytes)) ≡ x = omega (arith, high) in
      get_or-append_right (take at old ++ bytes) (drop (at + length bytes) old) (at + length bytes) x 0 both_long high
      ∙ get_or-drop (at + length bytes) old (x - (at + length bytes)) 0
      ∙ ap (λ (n : ℕ). get_or old n 0) place

-- the byte that stands there
stands_at : (xs : List ℕ) (at : ℕ) (ys : List ℕ) → Stands xs at ys → (x : ℕ) → at ≤ x → x < at + length ys → get_or xs x 0 ≡ get_or ys (x - at) 0
stands_at xs at ys s x low high =
    let place : at + (x - at) ≡ x = omega (arith, low) in
    sym (ap (λ (n : ℕ). get_or xs n 0) place)
    ∙ sym (get_or-drop at xs (x - at) 0)
    ∙ sym (get_or-take (length ys) (drop at xs) (x - at) 0 (omega (arith, low, high)))
    ∙ ap (λ (zs : List ℕ). get_or zs (x - at) 0) s.is

-- Patches for one chunk, of whose last fragment the bytes begin at an offset.
module _ (chunk_id offset : ℕ) where
  -- the bytes once these patches are put in
  abbrev pub put_all : List Patch → List ℕ → List ℕ
  put_all [] bytes = bytes
  put_all (patch ∷ patches) bytes = put_all patches (cond (patch.chunk_id == chunk_id) (with_bytes bytes (patch.offset - offset) patch.bytes) bytes)

  -- a patch of four bytes inside so many
  pub record LiesIn (size : ℕ) (patch : Patch) : Type 0 where
    pub least : offset ≤ patch.offset
    pub most : patch.offset + 4 ≤ offset + size
    pub four : length patch.bytes ≡ 4

  -- and it stands in these
  pub record StandsIn (bytes : List ℕ) (patch : Patch) : Type 0 where
    pub lies : LiesIn (length bytes) patch
    pub stands : Stands bytes (patch.offset - offset) patch.bytes

  abbrev pub AllLieIn : ℕ → List Patch → Type 0
  AllLieIn size patches = Each (λ (patch : Patch). (patch.chunk_id == chunk_id) ≡ true → LiesIn size patch) patches

  abbrev pub AllStandIn : List ℕ → List Patch → Type 0
  AllStandIn bytes patches = Each (λ (patch : Patch). (patch.chunk_id == chunk_id) ≡ true → StandsIn bytes patch) patches

  -- the patch gives this byte
  abbrev pub gives : ℕ → Patch → Bool
  gives x patch = (patch.chunk_id == chunk_id) && (nat_le patch.offset (offset + x) && nat_lt (offset + x) (patch.offset + 4))

  place_fits : (size : ℕ) (bytes : List ℕ) (patch : Patch) → LiesIn size patch → length bytes ≡ size → patch.offset - offset + length patch.bytes ≤ length bytes
  place_fits size bytes patch lies long = let least = lies.least in let most = lies.most in let four = lies.four in omega (arith, least, most, four, long)

  -- Bytes that differ from others only where one of the patches gives them.
  abbrev Agrees : List ℕ → List ℕ → List Patch → Type 0
  Agrees bytes all patches = (x : ℕ) → (get_or bytes x 0 ≡ get_or all x 0) ⊎ (list_any (gives x) patches ≡ true)

  module _ (all bytes : List ℕ) (patch : Patch) (patches : List Patch) (long : length bytes ≡ length all) where
    agrees_put : (patch.chunk_id == chunk_id) ≡ true → StandsIn all patch → Agrees bytes all (patch ∷ patches) → Agrees (with_bytes bytes (patch.offset - offset) patch.bytes) all patches
    agrees_put e is agrees x = by_front (cases_lt x (patch.offset - offset))
      where
        least : offset ≤ patch.offset
        least = is.lies.least

        four : length patch.bytes ≡ 4
        four = is.lies.four

        fits : patch.offset - offset + length patch.bytes ≤ length bytes
        fits = place_fits (length all) bytes patch is.lies long

        other : gives x patch ≡ false → get_or (with_bytes bytes (patch.offset - offset) patch.bytes) x 0 ≡ get_or bytes x 0
            → (get_or (with_bytes bytes (patch.offset - offset) patch.bytes) x 0 ≡ get_or all x 0) ⊎ (list_any (gives x) patches ≡ true)
        other not_given same = by_agree (agrees x)
          where
            by_agree : (get_or bytes x 0 ≡ get_or all x 0) ⊎ (list_any (gives x) (patch ∷ patches) ≡ true)
                → (get_or (with_bytes bytes (patch.offset - offset) patch.bytes) x 0 ≡ get_or all x 0) ⊎ (list_any (gives x) patches ≡ true)
            by_agree (inl h) = inl (same ∙ h)
            by_agree (inr h) = inr (sym (ap (λ (b : Bool). b || list_any (gives x) patches) not_given) ∙ h)

        none_here : (nat_le patch.offset (offset + x) && nat_lt (offset + x) (patch.offset + 4)) ≡ false → gives x patch ≡ false
        none_here h = ap (λ (b : Bool). (patch.chunk_id == chunk_id) && b) h ∙ and_false (patch.chunk_id == chunk_id)
          where
            and_false : (b : Bool) → (b && false) ≡ false
            and_false true = refl
            and_false false = refl

        by_behind : patch.offset - offset ≤ x → ((x < patch.offset - offset + length patch.bytes) ⊎ (patch.offset - offset + length patch.bytes ≤ x))
            → (get_or (with_bytes bytes (patch.offset - offset) patch.bytes) x 0 ≡ get_or all x 0) ⊎ (list_any (gives x) patches ≡ true)
        by_behind low (inl high) =
            inl (put_here bytes (patch.offset - offset) patch.bytes fits x low high ∙ sym (stands_at all (patch.offset - offset) patch.bytes is.stands x low high))
        by_behind low (inr high) =
            other (none_here (ap (λ (b : Bool). nat_le patch.offset (offset + x) && b) (le-ltb (offset + x) (patch.offset + 4) (let l = least in let f = four in omega (arith, l, f, high))) ∙ and_false (nat_le patch.offset (offset + x))))
            (put_behind bytes (patch.offset - offset) patch.bytes fits x high)
          where
            and_false : (b : Bool) → (b && false) ≡ false
            and_false true = refl
            and_false false = refl

        by_front : ((x < patch.offset - offset) ⊎ (patch.offset - offset ≤ x))
            → (get_or (with_bytes bytes (patch.offset - offset) patch.bytes) x 0 ≡ get_or all x 0) ⊎ (list_any (gives x) patches ≡ true)
        by_front (inl low) =
            other (none_here (ap (λ (b : Bool). b && nat_lt (offset + x) (patch.offset + 4)) (not_le patch.offset (offset + x) (omega (arith, low)))))
            (put_before bytes (patch.offset - offset) patch.bytes fits x low)
          where
            not_le : (m n : ℕ) → n < m → nat_le m n ≡ false
            not_le m n low = by_test (nat_le m n) refl
              where
                by_test : (b : Bool) → nat_le m n ≡ b → nat_le m n ≡ false
                by_test true h = let high = leb-true m n h in absurd (omega (arith, high, low))
                by_test false h = h
        by_front (inr low) = by_behind low (cases_lt x (patch.offset - offset + length patch.bytes))

    agrees_other : (patch.chunk_id == chunk_id) ≡ false → Agrees bytes all (patch ∷ patches) → Agrees bytes all patches
    agrees_other e agrees x = by_agree (agrees x)
      where
        by_agree : (get_or bytes x 0 ≡ get_or all x 0) ⊎ (list_any (gives x) (patch ∷ patches) ≡ true) → (get_or bytes x 0 ≡ get_or all x 0) ⊎ (list_any (gives x) patches ≡ true)
        by_agree (inl h) = inl h
        by_agree (inr h) =
            inr (sym (ap (λ (b : Bool). (b && (nat_le patch.offset (offset + x) && nat_lt (offset + x) (patch.offset + 4))) || list_any (gives x) patches) e) ∙ h)

  -- so all of them lead to these
  leads_to : (all : List ℕ) (patches : List Patch) (bytes : List ℕ) → length bytes ≡ length all → AllStandIn all patches → Agrees bytes all patches → put_all patches bytes ≡ all
  leads_to all [] bytes long stand agrees = ext_get_or 0 bytes all long (λ x low. by_agree x (agrees x))
    where
      by_agree : (x : ℕ) → (get_or bytes x 0 ≡ get_or all x 0) ⊎ (false ≡ true) → get_or bytes x 0 ≡ get_or all x 0
      by_agree x (inl h) = h
      by_agree x (inr h) = absurd (false≢true h)
  leads_to all (patch ∷ patches) bytes long stand agrees =
      by_id (patch.chunk_id == chunk_id) refl (λ (next : List ℕ) (l : length next ≡ length all) (a : Agrees next all patches). leads_to all patches next l stand.1 a)
    where
      by_id : (b : Bool) → (patch.chunk_id == chunk_id) ≡ b → ((next : List ℕ) → length next ≡ length all → Agrees next all patches → put_all patches next ≡ all)
          → put_all patches (cond b (with_bytes bytes (patch.offset - offset) patch.bytes) bytes) ≡ all
      by_id true e rest =
          let is = stand.0 e in
          rest (with_bytes bytes (patch.offset - offset) patch.bytes)
          (put_long bytes (patch.offset - offset) patch.bytes (place_fits (length all) bytes patch is.lies long) ∙ long)
          (agrees_put all bytes patch patches long e is agrees)
      by_id false e rest = rest bytes long (agrees_other all bytes patch patches long e agrees)

  -- patches keep the length, and change nothing but what they give
  pub put_all_long : (size : ℕ) (patches : List Patch) (bytes : List ℕ) → length bytes ≡ size → AllLieIn size patches → length (put_all patches bytes) ≡ size
  put_all_long size [] bytes long lie = long
  put_all_long size (patch ∷ patches) bytes long lie =
      put_all_long size patches (cond (patch.chunk_id == chunk_id) (with_bytes bytes (patch.offset - offset) patch.bytes) bytes) (by_id (patch.chunk_id == chunk_id) refl) lie.1
    where
      by_id : (b : Bool) → (patch.chunk_id == chunk_id) ≡ b → length (cond b (with_bytes bytes (patch.offset - offset) patch.bytes) bytes) ≡ size
      by_id true e = put_long bytes (patch.offset - offset) patch.bytes (place_fits size bytes patch (lie.0 e) long) ∙ long
      by_id false e = long

  ungiven : (size : ℕ) (patches : List Patch) (bytes : List ℕ) → length bytes ≡ size → AllLieIn size patches → (x : ℕ) → list_any (gives x) patches ≡ false
      → get_or (put_all patches bytes) x 0 ≡ get_or bytes x 0
  ungiven size [] bytes long lie x none = refl
  ungiven size (patch ∷ patches) bytes long lie x none =
      by_id (patch.chunk_id == chunk_id) refl
      (λ (next : List ℕ) (l : length next ≡ size). ungiven size patches next l lie.1 x (rest_none (gives x patch) none))
    where
      rest_none : (b : Bool) → (b || list_any (gives x) patches) ≡ false → list_any (gives x) patches ≡ false
      rest_none true h = absurd (false≢true (sym h))
      rest_none false h = h

      first_none : (b : Bool) → (b || list_any (gives x) patches) ≡ false → b ≡ false
      first_none true h = absurd (false≢true (sym h))
      first_none false h = refl

      by_id : (b : Bool) → (patch.chunk_id == chunk_id) ≡ b → ((next : List ℕ) → length next ≡ size → get_or (put_all patches next) x 0 ≡ get_or next x 0)
          → get_or (put_all patches (cond b (with_bytes bytes (patch.offset - offset) patch.bytes) bytes)) x 0 ≡ get_or bytes x 0
      by_id false e rest = rest bytes long
      by_id true e rest =
          let fits = place_fits size bytes patch (lie.0 e) long in
          rest (with_bytes bytes (patch.offset - offset) patch.bytes) (put_long bytes (patch.offset - offset) patch.bytes fits ∙ long)
          ∙ by_front (cases_lt x (patch.offset - offset))
        where
          least : offset ≤ patch.offset
          least = (lie.0 e).least

          four : length patch.bytes ≡ 4
          four = (lie.0 e).four

          given : patch.offset - offset ≤ x → x < patch.offset - offset + length patch.bytes → gives x patch ≡ true
          given low high =
              and_from (patch.chunk_id == chunk_id) (nat_le patch.offset (offset + x) && nat_lt (offset + x) (patch.offset + 4)) e
              (and_from (nat_le patch.offset (offset + x)) (nat_lt (offset + x) (patch.offset + 4))
              (le-leb patch.offset (offset + x) (let l = least in omega (arith, l, low)))
              (lt-ltb (offset + x) (patch.offset + 4) (let l = least in let f = four in omega (arith, l, f, low, high))))

          by_behind : patch.offset - offset ≤ x → ((x < patch.offset - offset + length patch.bytes) ⊎ (patch.offset - offset + length patch.bytes ≤ x))
              → get_or (with_bytes bytes (patch.offset - offset) patch.bytes) x 0 ≡ get_or bytes x 0
          by_behind low (inl high) = absurd (false≢true (sym (first_none (gives x patch) none) ∙ given low high))
          by_behind low (inr high) = put_behind bytes (patch.offset - offset) patch.bytes (place_fits size bytes patch (lie.0 e) long) x high

          by_front : ((x < patch.offset - offset) ⊎ (patch.offset - offset ≤ x)) → get_or (with_bytes bytes (patch.offset - offset) patch.bytes) x 0 ≡ get_or bytes x 0
          by_front (inl low) = put_before bytes (patch.offset - offset) patch.bytes (place_fits size bytes patch (lie.0 e) long) x low
          by_front (inr low) = by_behind low (cases_lt x (patch.offset - offset + length patch.bytes))

  -- Where patches stand in what they lead to, others that stand there and give what they give lead to the same.
  pub same_put : (patches others : List Patch) (bytes : List ℕ) → AllLieIn (length bytes) patches → AllStandIn (put_all patches bytes) others
      → ((x : ℕ) → list_any (gives x) patches ≡ true → list_any (gives x) others ≡ true) → put_all others bytes ≡ put_all patches bytes
  same_put patches others bytes lie stand covers =
      leads_to (put_all patches bytes) others bytes (sym (put_all_long (length bytes) patches bytes refl lie)) stand
      (λ x. by_given x (list_any (gives x) patches) refl)
    where
      by_given : (x : ℕ) (b : Bool) → list_any (gives x) patches ≡ b → (get_or bytes x 0 ≡ get_or (put_all patches bytes) x 0) ⊎ (list_any (gives x) others ≡ true)
      by_given x true e = inr (covers x e)
      by_given x false e = inl (sym (ungiven (length bytes) patches bytes refl lie x e))
