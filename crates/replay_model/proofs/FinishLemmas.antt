-- The notes up to the closes, and reads behind them, are a history that comes to an end.
use Rattle.std.proofs.Common.{◌≡◌, ◌∙◌, ℕ, suc, ◌+◌, ◌-◌, ◌≤◌, ◌⊎◌, Bool, true, false, List, [], ◌∷◌, ◌++◌, Option, Some, None, refl, sym, ap, subst, arith, inl, inr, cond, append_assoc}
use Rattle.std.specs.Prelude.{◌==◌, slice_get, MatchBool}
use Rattle.std.specs.List.{flat_map}
use Rattle.std.proofs.lemmas.Bool.{eq-eqb, eqb-true, false≢true}
use Rattle.trace_base.proofs.Choices.{match_either}
use Rattle.trace_model.specs.Images.{Image, Chunk}
use Rattle.trace_model.specs.Pages.{chunk_of}
use Rattle.trace_model.specs.Reading.{Reading, Fragments, Unreadable, reading_of}
use Rattle.trace_model.specs.History as model
use Rattle.trace_model.specs.History.{Event}
use Rattle.delivery_laws.specs.Finishing.{Finishes}
use Rattle.delivery_laws.proofs.CompleteLemmas.{full_at}
use Rattle.delivery_laws.proofs.WrittenPackets.{are_full}
use Rattle.chunk_plain.specs.Views.{At, Completed, Content, Committed, Found, Noted, Arrive, Partial, Patched, Closed, Read, Commit, ServiceView, WriterView, taken_of}
use Rattle.chunk_plain.specs.Histories as histories
use Rattle.chunk_plain.specs.Histories.{content_at, found_among, once_read, happened}
use Rattle.world_model.specs.Accounts.{HasCut}
use Rattle.world_model.proofs.OwnLemmas.{elem_at, page_of, page_arrives}
use Rattle.service_core.specs.Order.{Stage, LeadTo}
use Rattle.replay_model.proofs.PhaseLemmas.{AreReads}

-- among these reads is one of the sequence, of at least so many packets
abbrev pub HasRead : (q packets : ℕ) → List Event → Type 0
HasRead q packets [] = ⊥
HasRead q packets (model.Read other limit ∷ events) = ((other ≡ q) × (packets ≤ limit)) ⊎ HasRead q packets events
HasRead q packets (model.Arrives sequence chunk_id chunk ∷ events) = ⊥
HasRead q packets (model.ArrivesInPart sequence chunk_id chunk ∷ events) = ⊥
HasRead q packets (model.Patched sequence patches ∷ events) = ⊥
HasRead q packets (model.Committed image patches ∷ events) = ⊥
HasRead q packets (model.Closed sequence ∷ events) = ⊥

pub has_read_right : (q packets : ℕ) (xs ys : List Event) → AreReads xs → HasRead q packets ys → HasRead q packets (xs ++ ys)
has_read_right q packets [] ys are has = has
has_read_right q packets (model.Read other limit ∷ xs) ys are has = inr (has_read_right q packets xs ys are has)
has_read_right q packets (model.Arrives sequence chunk_id chunk ∷ xs) ys are has = absurd are
has_read_right q packets (model.ArrivesInPart sequence chunk_id chunk ∷ xs) ys are has = absurd are
has_read_right q packets (model.Patched sequence patches ∷ xs) ys are has = absurd are
has_read_right q packets (model.Committed image patches ∷ xs) ys are has = absurd are
has_read_right q packets (model.Closed sequence ∷ xs) ys are has = absurd are

pub has_read_left : (q packets : ℕ) (xs ys : List Event) → HasRead q packets xs → HasRead q packets (xs ++ ys)
has_read_left q packets [] ys has = absurd has
has_read_left q packets (model.Read other limit ∷ xs) ys (inl here) = inl here
has_read_left q packets (model.Read other limit ∷ xs) ys (inr later) = inr (has_read_left q packets xs ys later)
has_read_left q packets (model.Arrives sequence chunk_id chunk ∷ xs) ys has = absurd has
has_read_left q packets (model.ArrivesInPart sequence chunk_id chunk ∷ xs) ys has = absurd has
has_read_left q packets (model.Patched sequence patches ∷ xs) ys has = absurd has
has_read_left q packets (model.Committed image patches ∷ xs) ys has = absurd has
has_read_left q packets (model.Closed sequence ∷ xs) ys has = absurd has

finishes_read : (q chunks packets come : ℕ) (events : List Event) → HasRead q packets events → Finishes q chunks packets come true events
finishes_read q chunks packets come [] has = absurd has
finishes_read q chunks packets come (model.Read other limit ∷ events) (inl here) = inl (here.0, refl, here.1)
finishes_read q chunks packets come (model.Read other limit ∷ events) (inr later) = inr (finishes_read q chunks packets come events later)
finishes_read q chunks packets come (model.Arrives sequence chunk_id chunk ∷ events) has = absurd has
finishes_read q chunks packets come (model.ArrivesInPart sequence chunk_id chunk ∷ events) has = absurd has
finishes_read q chunks packets come (model.Patched sequence patches ∷ events) has = absurd has
finishes_read q chunks packets come (model.Committed image patches ∷ events) has = absurd has
finishes_read q chunks packets come (model.Closed sequence ∷ events) has = absurd has

-- nothing comes once the sequence is closed
lead_shut : (view : ServiceView) (q : ℕ) (notes : List Noted) (stage last : Stage) → LeadTo view q stage notes last → stage.closed ≡ true → stage.come ≡ last.come
lead_shut view q [] stage last lead shut = ap (λ (s : Stage). s.come) lead
lead_shut view q (Arrive other id ∷ notes) stage last lead shut =
    match_either (other == q) _ _ _ lead.1 (λ same h. absurd (false≢true (sym h.0 ∙ shut))) (λ apart h. lead_shut view q notes stage last h shut)
lead_shut view q (Partial other id count ∷ notes) stage last lead shut =
    match_either (other == q) _ _ _ lead.1 (λ same h. absurd (false≢true (sym h.0 ∙ shut))) (λ apart h. lead_shut view q notes stage last h shut)
lead_shut view q (Patched other id ∷ notes) stage last lead shut =
    match_either (other == q) _ _ _ lead (λ same h. lead_shut view q notes (record stage { due = [] }) last h.3 shut) (λ apart h. lead_shut view q notes stage last h.1 shut)
lead_shut view q (Closed other ∷ notes) stage last lead shut =
    match_either (other == q) _ _ _ lead.1 (λ same h. absurd (false≢true (sym h.0 ∙ shut))) (λ apart h. lead_shut view q notes stage last h shut)
lead_shut view q (Read other limit ∷ notes) stage last lead shut = lead_shut view q notes stage last lead.1 shut
lead_shut view q (Commit place ∷ notes) stage last lead shut = lead_shut view q notes stage last lead.2 shut

-- What an arrival of the sequence of the writer at this place is, by the cut of the writer's packets.
module _ (size place : ℕ) (view : WriterView) (held : List Image) (cut : HasCut size place view held) (service : ServiceView)
    (learnt : (n : ℕ) (content : Content) → At (taken_of service place).contents n content → (chunk : ℕ) × At view.begun n (Completed chunk content))
    (named : (n chunk : ℕ) (content : Content) → At view.begun n (Completed chunk content) → content.image.chunk_id ≡ n) where
  pub record IsArrival (id : ℕ) : Type 0 where
    pub chunk : Chunk
    pub is : happened service (Arrive (place + 2) id) ≡ model.Arrives (place + 2) id chunk ∷ []

  pub arrives_one : (id : ℕ) (content : Content) → content_at service (place + 2) id ≡ Some content → IsArrival id
  arrives_one id content there =
      let back : place + 2 - 2 ≡ place = omega arith in
      let got : slice_get (taken_of service place).contents id ≡ Some content = sym (ap (λ (p : ℕ). slice_get (taken_of service p).contents id) back) ∙ there in
      let is = learnt id content (elem_at (taken_of service place).contents id content got) in
      let own = page_of size place id is.0 view held cut content is.1 (named id is.0 content is.1) in
      record {
        chunk = chunk_of own.page;
        is = ap (histories.arrival_of (place + 2) id) there
            ∙ page_arrives size (place + 2) id own.page content cut.small (full_at size cut.cut.pages id own.page (are_full size cut.cut.pages cut.cut.cut.full) own.get) own.image;
      }

  module _ (packets chunks : ℕ) where
    abbrev Done : ℕ → Bool → List Event → Type 0
    Done come closed events = Finishes (place + 2) chunks packets come closed events

    pass_arrival : (other id come : ℕ) (closed : Bool) (content : Option Content) (events : List Event) → (other == (place + 2)) ≡ false → Done come closed events
        → Done come closed (histories.arrival_of other id content ++ events)
    pass_arrival other id come closed None events apart done = done
    pass_arrival other id come closed (Some content) events apart done = by_reading (reading_of content.image.count content.image.payload)
      where
        by_reading : (reading : Reading) → Done come closed (once_read (λ chunk. model.Arrives other id chunk) content.image.flags reading ++ events)
        by_reading (Fragments fragments) = subst (λ (b : Bool). Done (cond b (suc come) come) closed events) (sym apart) done
        by_reading (Unreadable number) = done

    pass_part : (other id count come : ℕ) (closed : Bool) (found : Option Found) (events : List Event) → Done come closed events
        → Done come closed (histories.part_of other id count found ++ events)
    pass_part other id count come closed None events done = done
    pass_part other id count come closed (Some found) events done = by_reading (reading_of count found.sealed)
      where
        by_reading : (reading : Reading) → Done come closed (once_read (λ chunk. model.ArrivesInPart other id chunk) found.head.flags reading ++ events)
        by_reading (Fragments fragments) = done
        by_reading (Unreadable number) = done

    pass_patches : (other come : ℕ) (closed : Bool) (content : Option Content) (events : List Event) → Done come closed events
        → Done come closed (histories.patches_of other content ++ events)
    pass_patches other come closed None events done = done
    pass_patches other come closed (Some content) events done = done

    pass_commit : (come : ℕ) (closed : Bool) (commit : Option Committed) (events : List Event) → Done come closed events
        → Done come closed (histories.commit_of commit ++ events)
    pass_commit come closed None events done = done
    pass_commit come closed (Some one) events done = done

    -- one event in front
    behind : (come : ℕ) (closed : Bool) (xs ys zs : List Event) → Done come closed (xs ++ (ys ++ zs)) → Done come closed ((xs ++ ys) ++ zs)
    behind come closed xs ys zs done = subst (Done come closed) (sym (append_assoc xs ys zs)) done

    pub lead_finishes : (notes : List Noted) (stage last : Stage) → LeadTo service (place + 2) stage notes last → last.closed ≡ true → last.come ≡ chunks
        → (events : List Event) → HasRead (place + 2) packets events → Done stage.come stage.closed (flat_map (happened service) notes ++ events)
    lead_finishes [] stage last lead shut many events has =
        subst (λ (b : Bool). Done stage.come b events) (sym (ap (λ (s : Stage). s.closed) lead ∙ shut)) (finishes_read (place + 2) chunks packets stage.come events has)
    lead_finishes (Arrive other id ∷ notes) stage last lead shut many events has =
        let more : List Event = flat_map (happened service) notes in
        behind stage.come stage.closed (happened service (Arrive other id)) more events
        (match_either (other == (place + 2)) _ _ (Done stage.come stage.closed (happened service (Arrive other id) ++ (more ++ events))) lead.1
        (λ same h.
        let one = arrives_one id h.2 h.3 in
        let is : happened service (Arrive other id) ≡ model.Arrives (place + 2) id one.chunk ∷ [] =
        ap (λ (s : ℕ). happened service (Arrive s id)) (eqb-true other (place + 2) same) ∙ one.is in
        let rest = lead_finishes notes (record { come = suc stage.come; closed = stage.closed; due = h.2.patches }) last h.4 shut many events has in
        subst (λ (es : List Event). Done stage.come stage.closed (es ++ (more ++ events))) (sym is)
        (subst (λ (b : Bool). Done (cond b (suc stage.come) stage.come) stage.closed (more ++ events)) (sym (eq-eqb (place + 2) (place + 2) refl)) rest))
        (λ apart h. pass_arrival other id stage.come stage.closed (content_at service other id) (more ++ events) apart (lead_finishes notes stage last h shut many events has)))
    lead_finishes (Partial other id count ∷ notes) stage last lead shut many events has =
        let more : List Event = flat_map (happened service) notes in
        behind stage.come stage.closed (happened service (Partial other id count)) more events
        (pass_part other id count stage.come stage.closed (found_among (other - 2) id count service.looks) (more ++ events)
        (match_either (other == (place + 2)) _ _ (Done stage.come stage.closed (more ++ events)) lead.1
        (λ same h. lead_finishes notes stage last h.3 shut many events has) (λ apart h. lead_finishes notes stage last h shut many events has)))
    lead_finishes (Patched other id ∷ notes) stage last lead shut many events has =
        let more : List Event = flat_map (happened service) notes in
        behind stage.come stage.closed (happened service (Patched other id)) more events
        (pass_patches other stage.come stage.closed (content_at service other id) (more ++ events)
        (match_either (other == (place + 2)) _ _ (Done stage.come stage.closed (more ++ events)) lead
        (λ same h. lead_finishes notes (record stage { due = [] }) last h.3 shut many events has) (λ apart h. lead_finishes notes stage last h.1 shut many events has)))
    lead_finishes (Closed other ∷ notes) stage last lead shut many events has =
        let more : List Event = flat_map (happened service) notes in
        match_either (other == (place + 2)) _ _ (Done stage.come stage.closed (model.Closed other ∷ (more ++ events))) lead.1
        (λ same h.
        let come_is = lead_shut service (place + 2) notes (record stage { closed = true }) last h.1 refl in
        subst (λ (b : Bool). MatchBool b ((stage.come ≡ chunks) × Done stage.come true (more ++ events)) (Done stage.come stage.closed (more ++ events))) (sym same)
        (come_is ∙ many, lead_finishes notes (record stage { closed = true }) last h.1 shut many events has))
        (λ apart h.
        subst (λ (b : Bool). MatchBool b ((stage.come ≡ chunks) × Done stage.come true (more ++ events)) (Done stage.come stage.closed (more ++ events))) (sym apart)
        (lead_finishes notes stage last h shut many events has))
    lead_finishes (Read other limit ∷ notes) stage last lead shut many events has = inr (lead_finishes notes stage last lead.1 shut many events has)
    lead_finishes (Commit at ∷ notes) stage last lead shut many events has =
        let more : List Event = flat_map (happened service) notes in
        behind stage.come stage.closed (happened service (Commit at)) more events
        (pass_commit stage.come stage.closed (slice_get service.commits at) (more ++ events) (lead_finishes notes stage last lead.2 shut many events has))
