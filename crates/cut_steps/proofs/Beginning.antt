-- Packets begin behind the chains that are there, or are dropped there.
use Rattle.std.proofs.Common.{◌≡◌, ◌∙◌, ℕ, ◌==◌, Bool, true, false, not, ◌&&◌, ◌||◌, IsTrue, List, [], ◌∷◌, ◌++◌, map, length, Option, Some, None, is_some, unwrap_or, MatchOption, MatchBool, cond, refl, sym, ap, subst, arith, append-nil}
use Rattle.std.specs.List.{AllZip, list_all}
use Rattle.std.proofs.lemmas.Bool.{and_from, true≢false}
use Rattle.std.proofs.lemmas.List.Elements.{All-nil}
use Rattle.trace_model.specs.Images.{Patch}
use Rattle.trace_model.specs.Packets.{Packet, Text, NestedLength, flat, open_length, body_of, kept_of, is_lost}
use Rattle.trace_model.specs.Pages.{Page}
use Rattle.trace_model.specs.Row.{Piece, Chain, bytes_of}
use Rattle.trace_model.specs.Sent.{SentPatch, sent_of, all_sent, open_chunks, open_in, is_in_one}
use Rattle.trace_model.specs.Cut.{IsWellFormedPage, Begins, IsGivenUp, last_runs_on, length_places, all_end_well, all_go_on, is_fresh, is_same, begins_chunk, begins_well, all_begin_well, older_chains}
use Rattle.cut_steps.specs.RawChains.{raw_chains, settled_piece, earlier_pieces, chains_before, offset_behind, current_piece, current_pieces, current_chain, start_of}
use Rattle.cut_steps.specs.RawCut.{IsRawChainOf}
use Rattle.cut_steps.specs.Pieces.{IsLarge, BeginsAt, AllRunOn, ChainsEndBefore}
use Rattle.cut_steps.specs.Pending.{HasSent, sent_now, AllEndWithin, patches_so_far}
use Rattle.cut_steps.specs.Growth.{HasBytes}
use Rattle.cut_steps.specs.Writing.{IsWriting}
use Rattle.cut_steps.specs.Between.{IsBetween}

-- Nothing was written yet

pub between_first : (size : ℕ) → IsLarge size → IsBetween size [] [] [] [] 4
between_first size large = record {
  chains_are = tt;
  begins = refl;
  sends = record {
    patches = tt;
    unsent_are = refl;
    by = tt;
    for = tt;
    sent_below = tt;
    unsent_below = tt;
    lasts = refl;
    awaits = tt;
    sent_placed = refl;
    unsent_placed = refl;
    behind = tt;
  };
  none_open = refl;
  four = tt;
  ends = tt;
  large = large;
  full = All-nil (IsWellFormedPage size);
  flags = tt;
}

-- Lost packets

kept_of-lost : (packet : Packet) (older : List Packet) → packet.kept ≡ false → kept_of (packet ∷ older) ≡ kept_of older
kept_of-lost packet older k = ap (λ (b : Bool). cond b (packet ∷ kept_of older) (kept_of older)) k

begins_well-lost : (size : ℕ) (packet : Packet) (older : List Packet) (chains : List Chain) → packet.kept ≡ false
    → begins_well size packet older chains ≡ is_fresh size packet.follows_flush older chains
begins_well-lost size packet older [] k = ap (λ (b : Bool). cond b false (is_fresh size packet.follows_flush older [])) k
begins_well-lost size packet older (chain ∷ chains) k =
    ap (λ (b : Bool). cond b (is_same (begins_chunk chain) (is_fresh size packet.follows_flush older chains)) (is_fresh size packet.follows_flush older (chain ∷ chains))) k

-- A packet is dropped at its begin, where it would have begun a new chunk.
pub between_lost : (size : ℕ) (packet : Packet) (older : List Packet) (pages : List Page) (chains : List Chain) (unsent : List Patch) (offset : ℕ)
    → IsBetween size older pages chains unsent offset → packet.kept ≡ false → is_fresh size packet.follows_flush older chains ≡ true
    → IsBetween size (packet ∷ older) pages chains unsent offset
between_lost size packet older pages chains unsent offset b k fresh =
    let same : kept_of older ≡ kept_of (packet ∷ older) = sym (kept_of-lost packet older k) in
    record {
      chains_are = subst (λ (ps : List Packet). AllZip (IsRawChainOf size (patches_so_far pages [] unsent)) ps chains) same b.chains_are;
      begins = and_from (begins_well size packet older chains) (all_begin_well size older (cond packet.kept (older_chains chains) chains))
          (begins_well-lost size packet older chains k ∙ fresh)
          (subst (λ (x : Bool). IsTrue (all_begin_well size older (cond x (older_chains chains) chains))) (sym k) b.begins);
      sends = subst (λ (ps : List Packet). HasSent pages (all_sent ps chains) unsent []) same b.sends;
      none_open = ap (λ (ps : List Packet). open_chunks ps chains) (sym same) ∙ b.none_open;
      four = b.four;
      ends = b.ends;
      large = b.large;
      full = b.full;
      flags = b.flags;
    }

-- The calls of a packet that was given up

begins_well-packet : (size : ℕ) (a b : Packet) (older : List Packet) (chains : List Chain) → a.kept ≡ b.kept → a.follows_flush ≡ b.follows_flush
    → begins_well size a older chains ≡ begins_well size b older chains
begins_well-packet size a b older [] k f =
    ap (λ (x : Bool). cond x false (is_fresh size a.follows_flush older [])) k ∙ ap (λ (x : Bool). cond b.kept false (is_fresh size x older [])) f
begins_well-packet size a b older (chain ∷ chains) k f =
    ap (λ (x : Bool). cond x (is_same (begins_chunk chain) (is_fresh size a.follows_flush older chains)) (is_fresh size a.follows_flush older (chain ∷ chains))) k
    ∙ ap (λ (x : Bool). cond b.kept (is_same (begins_chunk chain) (is_fresh size x older chains)) (is_fresh size x older (chain ∷ chains))) f

same_chain : (size : ℕ) (patches : List Patch) (packet later : Packet) (text : Text) (chain : Chain) → packet.given_up ≡ Some text → later.given_up ≡ packet.given_up
    → IsRawChainOf size patches packet chain → IsRawChainOf size patches later chain
same_chain size patches packet later text chain g e h =
    let bytes : List ℕ = bytes_of (map (settled_piece patches) chain.pieces) in
    let given : later.given_up ≡ Some text = e ∙ g in
    record {
      marked = h.marked ∙ sym (ap (λ (o : Option Text). is_some o) e);
      bytes = subst (λ (o : Option Text). MatchOption o (MatchBool later.finished (bytes ≡ body_of later) (Begins bytes (body_of later))) (IsGivenUp bytes)) (sym given)
          (subst (λ (o : Option Text). MatchOption o (MatchBool packet.finished (bytes ≡ body_of packet) (Begins bytes (body_of packet))) (IsGivenUp bytes)) g h.bytes);
      ends = subst (λ (o : Option Text). IsTrue (all_end_well size (length_places (unwrap_or o later.text)) 0 chain.pieces)) (sym given)
          (subst (λ (o : Option Text). IsTrue (all_end_well size (length_places (unwrap_or o packet.text)) 0 chain.pieces)) g h.ends);
      goes_on = h.goes_on;
      lengths = subst (λ (o : Option Text). IsTrue (list_all (is_in_one chain.pieces) (open_in chain.pieces (unwrap_or o later.text)))) (sym given)
          (subst (λ (o : Option Text). IsTrue (list_all (is_in_one chain.pieces) (open_in chain.pieces (unwrap_or o packet.text)))) g h.lengths);
    }

same_sent : (packet later : Packet) (text : Text) (chain : Chain) → packet.given_up ≡ Some text → later.given_up ≡ packet.given_up → sent_of later chain ≡ sent_of packet chain
same_sent packet later text chain g e =
    ap (λ (o : Option Text). sent_of (record later { given_up = o }) chain) (e ∙ g)
    ∙ sym (ap (λ (o : Option Text). sent_of (record packet { given_up = o }) chain) g)

-- the packet is kept, and its later text counts for nothing
changed_kept : (size : ℕ) (packet later : Packet) (text : Text) (older : List Packet) (pages : List Page) (chains : List Chain) (unsent : List Patch) (offset : ℕ)
    → packet.kept ≡ true → packet.given_up ≡ Some text → later.kept ≡ packet.kept → later.follows_flush ≡ packet.follows_flush → later.given_up ≡ packet.given_up
    → IsBetween size (packet ∷ older) pages chains unsent offset → IsBetween size (later ∷ older) pages chains unsent offset
changed_kept size packet later text older pages chains unsent offset k g kept flush given b =
    let ours : kept_of (packet ∷ older) ≡ packet ∷ kept_of older = ap (λ (x : Bool). cond x (packet ∷ kept_of older) (kept_of older)) k in
    let theirs : kept_of (later ∷ older) ≡ later ∷ kept_of older = ap (λ (x : Bool). cond x (later ∷ kept_of older) (kept_of older)) (kept ∙ k) in
    record {
      chains_are = subst (λ (ps : List Packet). AllZip (IsRawChainOf size patches) ps chains) (sym theirs)
          (zip chains (subst (λ (ps : List Packet). AllZip (IsRawChainOf size patches) ps chains) ours b.chains_are));
      begins = begins chains b.begins;
      sends = subst (λ (xs : List SentPatch). HasSent pages xs unsent [])
          (sym (ap (λ (ps : List Packet). all_sent ps chains) theirs ∙ sends chains ∙ sym (ap (λ (ps : List Packet). all_sent ps chains) ours))) b.sends;
      none_open = ap (λ (ps : List Packet). open_chunks ps chains) theirs ∙ none chains;
      four = b.four;
      ends = b.ends;
      large = b.large;
      full = b.full;
      flags = b.flags;
    }
  where
    patches : List Patch
    patches = patches_so_far pages [] unsent

    zip : (cs : List Chain) → AllZip (IsRawChainOf size patches) (packet ∷ kept_of older) cs → AllZip (IsRawChainOf size patches) (later ∷ kept_of older) cs
    zip [] h = absurd h
    zip (chain ∷ cs) h = (same_chain size patches packet later text chain g given h.0, h.1)

    sends : (cs : List Chain) → all_sent (later ∷ kept_of older) cs ≡ all_sent (packet ∷ kept_of older) cs
    sends [] = refl
    sends (chain ∷ cs) = ap (λ (xs : List SentPatch). all_sent (kept_of older) cs ++ xs) (same_sent packet later text chain g given)

    none : (cs : List Chain) → open_chunks (later ∷ kept_of older) cs ≡ []
    none [] = refl
    none (chain ∷ cs) = ap (λ (o : Option Text). open_chunks (record later { given_up = o } ∷ kept_of older) (chain ∷ cs)) (given ∙ g)

    begins : (cs : List Chain) → IsTrue (all_begin_well size (packet ∷ older) cs) → IsTrue (all_begin_well size (later ∷ older) cs)
    begins cs h =
        ap (λ (x : Bool). x && all_begin_well size older (cond later.kept (older_chains cs) cs)) (begins_well-packet size later packet older cs kept flush)
        ∙ ap (λ (x : Bool). begins_well size packet older cs && all_begin_well size older (cond x (older_chains cs) cs)) kept
        ∙ h

changed_lost : (size : ℕ) (packet later : Packet) (older : List Packet) (pages : List Page) (chains : List Chain) (unsent : List Patch) (offset : ℕ)
    → packet.kept ≡ false → later.kept ≡ packet.kept → later.follows_flush ≡ packet.follows_flush
    → IsBetween size (packet ∷ older) pages chains unsent offset → IsBetween size (later ∷ older) pages chains unsent offset
changed_lost size packet later older pages chains unsent offset k kept flush b =
    let same : kept_of (packet ∷ older) ≡ kept_of (later ∷ older) = kept_of-lost packet older k ∙ sym (kept_of-lost later older (kept ∙ k)) in
    record {
      chains_are = subst (λ (ps : List Packet). AllZip (IsRawChainOf size (patches_so_far pages [] unsent)) ps chains) same b.chains_are;
      begins = ap (λ (x : Bool). x && all_begin_well size older (cond later.kept (older_chains chains) chains)) (begins_well-packet size later packet older chains kept flush)
          ∙ ap (λ (x : Bool). begins_well size packet older chains && all_begin_well size older (cond x (older_chains chains) chains)) kept
          ∙ b.begins;
      sends = subst (λ (ps : List Packet). HasSent pages (all_sent ps chains) unsent []) same b.sends;
      none_open = ap (λ (ps : List Packet). open_chunks ps chains) (sym same) ∙ b.none_open;
      four = b.four;
      ends = b.ends;
      large = b.large;
      full = b.full;
      flags = b.flags;
    }

-- The calls of a lost packet, its end among them, change nothing.
pub between_changed : (size : ℕ) (packet later : Packet) (older : List Packet) (pages : List Page) (chains : List Chain) (unsent : List Patch) (offset : ℕ)
    → IsTrue (is_lost packet) → later.kept ≡ packet.kept → later.follows_flush ≡ packet.follows_flush → later.given_up ≡ packet.given_up
    → IsBetween size (packet ∷ older) pages chains unsent offset → IsBetween size (later ∷ older) pages chains unsent offset
between_changed size packet later older pages chains unsent offset lost kept flush given b = by_kept packet.kept refl packet.given_up refl
  where
    by_kept : (k : Bool) → packet.kept ≡ k → (g : Option Text) → packet.given_up ≡ g → IsBetween size (later ∷ older) pages chains unsent offset
    by_kept false k g e = changed_lost size packet later older pages chains unsent offset k kept flush b
    by_kept true k None e =
        absurd (true≢false (sym lost ∙ ap (λ (x : Bool). not x || is_some packet.given_up) k ∙ ap (λ (o : Option Text). false || is_some o) e))
    by_kept true k (Some text) e = changed_kept size packet later text older pages chains unsent offset k e kept flush given b

-- A packet begins

-- it begins well where it is the first of its chunk exactly if it is to begin a new one
pub begins_well-begun : (size : ℕ) (packet : Packet) (older : List Packet) (pages : List Page) (continues : Bool) (done : List (List ℕ)) (front : List ℕ) (chains : List Chain)
    → packet.kept ≡ true → earlier_pieces pages continues done ≡ [] → (length done == 0) ≡ is_fresh size packet.follows_flush older chains
    → IsTrue (begins_well size packet older (current_chain pages continues done front ∷ chains))
begins_well-begun size packet older pages continues done front chains k none place =
    let chain : Chain = current_chain pages continues done front in
    let fresh : Bool = is_fresh size packet.follows_flush older chains in
    ap (λ (b : Bool). cond b (is_same (begins_chunk chain) fresh) (is_fresh size packet.follows_flush older (chain ∷ chains))) k
    ∙ ap (λ (earlier : List Piece). is_same ((start_of earlier (current_piece pages done front)).passed == 0) fresh) none
    ∙ ap (λ (b : Bool). is_same b fresh) place
    ∙ itself fresh
  where
    itself : (b : Bool) → is_same b b ≡ true
    itself true = refl
    itself false = refl

pub writing_begun : (size : ℕ) (packet : Packet) (older : List Packet) (pages : List Page) (continues : Bool) (done : List (List ℕ)) (front : List ℕ)
    (chains : List Chain) (unsent : List Patch) → IsBetween size older pages chains unsent (offset_behind 4 done)
    → earlier_pieces pages continues done ≡ [] → chains_before pages continues done ≡ chains → continues ≡ last_runs_on false pages
    → packet.kept ≡ true → packet.given_up ≡ None → packet.finished ≡ false → packet.text.levels ≡ front ∷ [] → packet.text.closed ≡ []
    → IsTrue (begins_well size packet older (current_chain pages continues done front ∷ chains))
    → IsWriting size packet older pages continues done front unsent [] []
writing_begun size packet older pages continues done front chains unsent b none before continues_is kept given unfinished levels closed begins =
    let piece : Piece = current_piece pages done front in
    let patches : List Patch = patches_so_far pages [] unsent in
    let sent : List SentPatch = all_sent (kept_of older) (chains_before pages continues done) in
    record {
      kept = kept;
      given_up = given;
      finished = unfinished;
      level = front;
      outer = [];
      levels = levels;
      first = length pages;
      first_offset = offset_behind 4 done;
      begins_at = subst (λ (earlier : List Piece). BeginsAt (length pages) (offset_behind 4 done) (earlier ++ piece ∷ [])) (sym none) (refl, refl);
      bytes = subst (λ (earlier : List Piece). HasBytes patches (length pages) earlier piece (front ∷ [])) (sym none)
          (record { exact = refl; follows = tt; chunk = omega arith; long = refl; stand = tt });
      earlier_run_on = subst (AllRunOn pages) (sym none) tt;
      sends = subst (λ (xs : List SentPatch). HasSent pages xs unsent [])
          (sym (ap (λ (ls : List NestedLength). sent ++ sent_now (current_pieces pages continues done front) ls) closed ∙ append-nil sent
          ∙ ap (all_sent (kept_of older)) before)) b.sends;
      holes_are = refl;
      closed_in = subst (AllEndWithin (length (flat open_length (front ∷ [])))) (sym closed) tt;
      ends = subst (λ (earlier : List Piece). IsTrue (all_end_well size (length_places packet.text) 0 earlier)) (sym none) refl;
      four = b.four;
      begins = subst (λ (cs : List Chain). IsTrue (begins_well size packet older (current_chain pages continues done front ∷ cs))) (sym before) begins;
      older_chains = subst (AllZip (IsRawChainOf size patches) (kept_of older)) (sym before) b.chains_are;
      older_begin = subst (λ (cs : List Chain). IsTrue (all_begin_well size older cs)) (sym before) b.begins;
      older_end = subst (ChainsEndBefore (length pages) (offset_behind 4 done)) (sym before) b.ends;
      goes_on = subst (λ (earlier : List Piece). IsTrue (all_go_on earlier)) (sym none) refl;
      large = b.large;
      full = b.full;
      flags = b.flags;
      continues_is = continues_is;
    }

-- in a new chunk
pub writing_begun_new : (size : ℕ) (packet : Packet) (older : List Packet) (pages : List Page) (front : List ℕ)
    → IsBetween size older pages (raw_chains pages) [] 4 → last_runs_on false pages ≡ false
    → packet.kept ≡ true → packet.given_up ≡ None → packet.finished ≡ false → packet.text.levels ≡ front ∷ [] → packet.text.closed ≡ []
    → is_fresh size packet.follows_flush older (raw_chains pages) ≡ true
    → IsWriting size packet older pages false [] front [] [] []
writing_begun_new size packet older pages front b stays kept given unfinished levels closed fresh =
    writing_begun size packet older pages false [] front (raw_chains pages) [] b refl refl (sym stays) kept given unfinished levels closed
    (begins_well-begun size packet older pages false [] front (raw_chains pages) kept refl (sym fresh))
