-- A scenario's lines, one behind another.
use Rattle.std.proofs.Common.{◌≡◌, ◌∙◌, ℕ, zero, suc, ◌<◌, ◌≤◌, List, [], ◌∷◌, ◌++◌, length, take, drop, get_or, refl, sym, ap, subst, append_assoc, append-nil, arith}
use Rattle.std.proofs.Math.Seq.{drop-cons, take-suc, take_all}
use Rattle.std.proofs.lemmas.List.{take-append-drop, drop_all, length-drop}
use Rattle.byte_io.specs.Bytes.{Intake}
use Rattle.scenario_text.specs.declared.scenario.NumberedLine.{NumberedLine}
use Rattle.scenario_text.specs.Scenario.{Parts}
use Rattle.chunk_plain.specs.Meaning.{Meaning}
use Rattle.replay_model.specs.Acts.{Act}
use Rattle.replay_model.specs.Schedule.{acts_of, acts_from}
use Rattle.replay_host.specs.declared.fault.HostFault.{HostFault}
use Rattle.replay_host.specs.declared.host.Host.{Host}
use Rattle.replay_host.specs.Lines.{IsAt, Moment, ComesNext, IsLinePlayed}
use Rattle.replay_host.specs.Playing.{HasDone}
use Rattle.replay_host.specs.Stopping.{StopsIn}
use Rattle.replay_host.specs.Whole.{Begins, HavePlayed, HavePlayedTo}
use Rattle.replay_host.proofs.GoingLemmas.{done_none, done_both}
use Rattle.replay_host.proofs.StopLemmas.{stopped_later, stopped_more}

-- the lines before a place, and the line there, are those before the next place
took_more : (lines : List NumberedLine) (i : ℕ) (line : NumberedLine) → i < length lines → get_or lines i line ≡ line → take (suc i) lines ≡ take i lines ++ line ∷ []
took_more lines i line below is = take-suc lines i line below ∙ ap (λ (l : NumberedLine). take i lines ++ l ∷ []) is

-- the line there comes first of those from the place on
left_next : (lines : List NumberedLine) (i : ℕ) (line : NumberedLine) → i < length lines → get_or lines i line ≡ line → drop i lines ≡ line ∷ drop (suc i) lines
left_next lines i line below is = drop-cons lines i line below ∙ ap (λ (l : NumberedLine). l ∷ drop (suc i) lines) is

-- where the lines from a place on begin with this one
pub line_there : (lines rest : List NumberedLine) (i : ℕ) (line : NumberedLine) → drop i lines ≡ line ∷ rest
    → (i < length lines) × (get_or lines i line ≡ line) × (drop (suc i) lines ≡ rest)
line_there lines rest i line left =
    let below : i < length lines = omega (arith, length-drop i lines, ap length left) in
    let both : get_or lines i line ∷ drop (suc i) lines ≡ line ∷ rest = sym (drop-cons lines i line below) ∙ left in (
      below,
      heads (get_or lines i line) line (drop (suc i) lines) rest both,
      tails (get_or lines i line) line (drop (suc i) lines) rest both,
    )
  where
    heads : (x y : NumberedLine) (xs ys : List NumberedLine) → x ∷ xs ≡ y ∷ ys → x ≡ y
    heads x y xs ys same = cc

    tails : (x y : NumberedLine) (xs ys : List NumberedLine) → x ∷ xs ≡ y ∷ ys → xs ≡ ys
    tails x y xs ys same = cc

pub none_there : (lines : List NumberedLine) (i : ℕ) → drop i lines ≡ [] → length lines ≤ i
none_there lines i left = omega (arith, length-drop i lines, ap length left)

-- the acts from a place on are those of the line there and the later ones
acts_next : (scenario : Parts) (i : ℕ) (line : NumberedLine) → i < length scenario.lines → get_or scenario.lines i line ≡ line
    → acts_from scenario (take i scenario.lines) (drop i scenario.lines)
    ≡ acts_of scenario (take i scenario.lines) line.what ++ acts_from scenario (take (suc i) scenario.lines) (drop (suc i) scenario.lines)
acts_next scenario i line below is =
    ap (λ (ls : List NumberedLine). acts_from scenario (take i scenario.lines) ls) (left_next scenario.lines i line below is)
    ∙ ap (λ (ls : List NumberedLine). acts_of scenario (take i scenario.lines) line.what ++ acts_from scenario ls (drop (suc i) scenario.lines))
    (sym (took_more scenario.lines i line below is))

module _ {T W S : Type 0} (means : Meaning T W S) (scenario : Parts) (old : Host T W S) (taken : Intake) (begins : Begins means scenario old) where
  -- no line is played
  pub played_first : HavePlayedTo means scenario zero old taken old taken
  played_first = record { acts = []; rest = refl; notes = []; at = begins.at; done = done_none means old taken }

  module _ (i : ℕ) (line : NumberedLine) (below : i < length scenario.lines) (is : get_or scenario.lines i line ≡ line) (mid : Host T W S) (between : Intake)
      (so : HavePlayedTo means scenario i old taken mid between) where
    -- where the line stands that comes next
    abbrev pub moment_at : Moment
    moment_at = record { scenario = scenario; before = take i scenario.lines; line = line; rest = drop (suc i) scenario.lines; notes = so.notes }

    pub comes_at : ComesNext means moment_at mid
    comes_at = record {
      at = subst (λ (ls : List NumberedLine). IsAt means scenario (take i scenario.lines) ls so.notes mid) (left_next scenario.lines i line below is) so.at;
      reach = begins.reach (take i scenario.lines) line (drop (suc i) scenario.lines)
          (sym (take-append-drop i scenario.lines) ∙ ap (λ (ls : List NumberedLine). take i scenario.lines ++ ls) (left_next scenario.lines i line below is));
    }

    -- the acts before it, its own, and the later ones
    acts_cut : acts_from scenario [] scenario.lines
        ≡ (so.acts ++ acts_of scenario (take i scenario.lines) line.what) ++ acts_from scenario (take (suc i) scenario.lines) (drop (suc i) scenario.lines)
    acts_cut =
        so.rest ∙ ap (λ (acts : List Act). so.acts ++ acts) (acts_next scenario i line below is)
        ∙ sym (append_assoc so.acts (acts_of scenario (take i scenario.lines) line.what) (acts_from scenario (take (suc i) scenario.lines) (drop (suc i) scenario.lines)))

    -- one line more is played
    pub played_next : (new : Host T W S) (left : Intake) → IsLinePlayed means moment_at mid between new left → HavePlayedTo means scenario (suc i) old taken new left
    played_next new left played = record {
      acts = so.acts ++ acts_of scenario (take i scenario.lines) line.what;
      rest = acts_cut;
      notes = so.notes ++ played.later;
      at = subst (λ (ls : List NumberedLine). IsAt means scenario ls (drop (suc i) scenario.lines) (so.notes ++ played.later) new)
          (sym (took_more scenario.lines i line below is)) played.at;
      done = done_both means so.acts (acts_of scenario (take i scenario.lines) line.what) so.notes played.later old mid new taken between left so.done played.done;
    }

    -- or it stopped in the line
    pub stopped_next : (fault : HostFault) (left : Intake) → StopsIn means (acts_of scenario (take i scenario.lines) line.what) mid between fault left
        → StopsIn means (acts_from scenario [] scenario.lines) old taken fault left
    stopped_next fault left stops =
        subst (λ (acts : List Act). StopsIn means acts old taken fault left) (sym acts_cut)
        (stopped_more means (so.acts ++ acts_of scenario (take i scenario.lines) line.what) (acts_from scenario (take (suc i) scenario.lines) (drop (suc i) scenario.lines))
        old taken fault left
        (stopped_later means so.acts (acts_of scenario (take i scenario.lines) line.what) so.notes old mid taken between fault left so.done stops))

-- all lines are played where none is left
pub played_all : {T W S : Type 0} (means : Meaning T W S) (scenario : Parts) (old : Host T W S) (taken : Intake) (end : ℕ) (new : Host T W S) (left : Intake)
    → HavePlayedTo means scenario end old taken new left → length scenario.lines ≤ end → HavePlayed means scenario old taken new left
played_all means scenario old taken end new left so most = record {
  notes = so.notes;
  at = subst (λ (ls : List NumberedLine). IsAt means scenario ls [] so.notes new) (take_all end scenario.lines most)
      (subst (λ (ls : List NumberedLine). IsAt means scenario (take end scenario.lines) ls so.notes new) (drop_all end scenario.lines most) so.at);
  done = subst (λ (acts : List Act). HasDone means acts so.notes old taken new left)
      (sym (so.rest ∙ ap (λ (ls : List NumberedLine). so.acts ++ acts_from scenario (take end scenario.lines) ls) (drop_all end scenario.lines most)
      ∙ append-nil so.acts)) so.done;
}
