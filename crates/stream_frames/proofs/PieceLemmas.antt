-- What comes of a stream, whatever pieces it comes in.
use Rattle.std.proofs.Common.{◌≡◌, ◌≢◌, ℕ, ◌+◌, ◌≤◌, true, false, List, [], ◌∷◌, ◌++◌, length, drop, Result, Ok, Err, refl, sym, ap, ◌∙◌, arith, append_assoc}
use Rattle.std.proofs.lemmas.List.{append-nil, length-append, drop_at}
use Rattle.stream_frames.specs.Frames.{Frame, Limits, closes}
use Rattle.stream_frames.specs.Framing.{Front, Short, Bad, Whole, Feeding, Progress, between, going, stopped, by_front, goes_on, then_fed, front_of, fed_byte, fed, reach}
use Rattle.stream_frames.specs.Laws.{PiecesAreOneStream}
use Rattle.stream_frames.proofs.FrontLemmas.{none_front, front_grows, short_reach, reached}

-- ---- two pieces

goes_append : (a b : List Frame) (ends : Result Feeding ℕ) (next : Feeding → Progress)
    → goes_on (a ++ b) ends next ≡ record { frames = a ++ (goes_on b ends next).frames; ends = (goes_on b ends next).ends }
goes_append a b (Ok feeding) next =
    ap (λ (frames : List Frame). record { frames = frames; ends = (next feeding).ends }) (append_assoc a b (next feeding).frames)
goes_append a b (Err at) next = refl

goes_through : (frames : List Frame) (ends : Result Feeding ℕ) (p q r : Feeding → Progress) → ((feeding : Feeding) → q feeding ≡ then_fed (p feeding) r)
    → goes_on frames ends q ≡ then_fed (goes_on frames ends p) r
goes_through frames (Err at) p q r same = refl
goes_through frames (Ok feeding) p q r same =
    ap (λ (progress : Progress). record { frames = frames ++ progress.frames; ends = progress.ends }) (same feeding)
    ∙ sym (goes_append frames (p feeding).frames (p feeding).ends r)

pub pieces_are_one_stream : PiecesAreOneStream
unfolding fed
pieces_are_one_stream limits feeding [] b = refl
pieces_are_one_stream limits feeding (byte ∷ a) b =
    let step = fed_byte limits feeding byte in
    goes_through step.frames step.ends (λ next. fed limits next a) (λ next. fed limits next (a ++ b)) (λ next. fed limits next b)
    (λ next. pieces_are_one_stream limits next a b)

-- ---- a frame from its beginning on

abbrev pub opened : ℕ → List ℕ → Feeding
opened at have = record { at = at; have = have; closed = false }

abbrev pub behind_front : Limits → (at : ℕ) → List ℕ → Front → Progress
behind_front limits at bytes Short = going (opened at bytes)
behind_front limits at bytes Bad = stopped at
behind_front limits at bytes (Whole frame size) =
    record { frames = frame ∷ (fed limits (between (at + size) (closes frame)) (drop size bytes)).frames; ends = (fed limits (between (at + size) (closes frame)) (drop size bytes)).ends }

-- what comes of a frame's bytes is what stands in front of them
abbrev pub fronted : Limits → (at : ℕ) → List ℕ → Progress
fronted limits at bytes = behind_front limits at bytes (front_of limits bytes)

one_more : (limits : Limits) (at : ℕ) (have : List ℕ) (byte : ℕ) (bytes : List ℕ) (front : Front) → front_of limits have ≡ Short
    → front_of limits (have ++ byte ∷ []) ≡ front
    → (front ≡ Short → fed limits (opened at (have ++ byte ∷ [])) bytes ≡ fronted limits at ((have ++ byte ∷ []) ++ bytes))
    → then_fed (by_front at (have ++ byte ∷ []) front) (λ next. fed limits next bytes) ≡ fronted limits at ((have ++ byte ∷ []) ++ bytes)
one_more limits at have byte bytes Short short is later = later refl
one_more limits at have byte bytes Bad short is later =
    let known : front_of limits (have ++ byte ∷ []) ≢ Short = λ e. let f = sym is ∙ e in cc in
    sym (ap (behind_front limits at ((have ++ byte ∷ []) ++ bytes)) (front_grows limits (have ++ byte ∷ []) bytes known ∙ is))
one_more limits at have byte bytes (Whole frame size) short is later =
    let known : front_of limits (have ++ byte ∷ []) ≢ Short = λ e. let f = sym is ∙ e in cc in
    let room = short_reach limits have short in
    let long : length (have ++ byte ∷ []) ≤ reach have = omega (arith, length-append have (byte ∷ [])) in
    let size_is = reached limits have (byte ∷ []) frame size long is in
    let rest : drop size ((have ++ byte ∷ []) ++ bytes) ≡ bytes = drop_at (have ++ byte ∷ []) bytes size (sym size_is) in
    sym (ap (behind_front limits at ((have ++ byte ∷ []) ++ bytes)) (front_grows limits (have ++ byte ∷ []) bytes known ∙ is)
    ∙ ap (λ (behind : List ℕ). record { frames = frame ∷ (fed limits (between (at + size) (closes frame)) behind).frames; ends = (fed limits (between (at + size) (closes frame)) behind).ends }) rest)

pub frames_come : (limits : Limits) (at : ℕ) (have bytes : List ℕ) → front_of limits have ≡ Short
    → fed limits (opened at have) bytes ≡ fronted limits at (have ++ bytes)
unfolding fed fed_byte
frames_come limits at have [] short =
    sym (ap (fronted limits at) (append-nil have) ∙ ap (behind_front limits at have) short)
frames_come limits at have (byte ∷ bytes) short =
    one_more limits at have byte bytes (front_of limits (have ++ byte ∷ [])) short refl
    (λ still. frames_come limits at (have ++ byte ∷ []) bytes still)
    ∙ ap (fronted limits at) (append_assoc have (byte ∷ []) bytes)

-- behind a close there is no byte
pub closed_stops : (limits : Limits) (at byte : ℕ) (bytes : List ℕ) → fed limits (between at true) (byte ∷ bytes) ≡ stopped at
unfolding fed fed_byte
closed_stops limits at byte bytes = refl

pub none_fed : (limits : Limits) (feeding : Feeding) → fed limits feeding [] ≡ going feeding
unfolding fed
none_fed limits feeding = refl

-- of a piece that a whole frame begins, where nothing of that frame had come
pub whole_fed : (limits : Limits) (at : ℕ) (piece : List ℕ) (frame : Frame) (size : ℕ) → front_of limits piece ≡ Whole frame size
    → fed limits (between at false) piece ≡ then_fed (by_front at [] (Whole frame size)) (λ next. fed limits next (drop size piece))
whole_fed limits at piece frame size is =
    frames_come limits at [] piece (none_front limits) ∙ ap (behind_front limits at piece) is
