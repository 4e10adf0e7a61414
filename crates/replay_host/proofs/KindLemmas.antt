-- What comes next, by the kind of the line.
use Rattle.std.proofs.Common.{◌≡◌, ◌∙◌, ℕ, suc, ◌-◌, ◌≤◌, true, false, List, [], ◌∷◌, ◌++◌, map, refl, sym, ap, subst, arith}
use Rattle.trace_model.specs.Calls.{Call, Begun, Nested, Ended, Finished, Flushed}
use Rattle.field_tree.specs.Nodes.{Shown}
use Rattle.scenario_text.specs.declared.scenario.LineKind.{LineKind}
use Rattle.scenario_text.specs.declared.scenario.LineKind.TheVariants as line
use Rattle.scenario_text.specs.declared.scenario.NumberedLine.{NumberedLine}
use Rattle.scenario_text.specs.Scenario.{Parts}
use Rattle.scenario_text.specs.Accepted.{node_call, if_own, line_calls, closes}
use Rattle.scenario_text.specs.RawChunks.{AskedChunk}
use Rattle.scenario_text.specs.Reach.{CommitsChunk, IsInReach, NamesWriter, NamesProducer}
use Rattle.chunk_plain.specs.Meaning.{Meaning}
use Rattle.replay_model.specs.Acts.{Act, Collect, Scrape, ReadAll, CommitRaw, asks}
use Rattle.replay_model.specs.Schedule.{acts_of, asked_of}
use Rattle.replay_host.specs.declared.host.Host.{Host}
use Rattle.replay_host.specs.Asks.{AsksFor, AsksNothing, LeavesDue, ComesAsking}
use Rattle.replay_model.specs.Flushes.{request_count}
use Rattle.replay_host.specs.Lines.{Moment, ComesNext}
use Rattle.replay_host.specs.Serving.{ComesServing}
use Rattle.replay_host.proofs.DueLemmas.{asks_for, acts_asked, due_fields, due_nest, due_unnest, due_flush, due_packet, due_begin}

-- what a line says of its writer
record IsAskedBy (kind : LineKind) (writer : ℕ) (calls : List Call) : Type 0 where
  calls_are : (number : ℕ) → line_calls number kind ≡ if_own number writer calls
  no_request : request_count kind ≡ 0
  closes_none : (producer : ℕ) → closes producer kind ≡ false
  acts_are : (scenario : Parts) (before : List NumberedLine) → acts_of scenario before kind ≡ asked_of writer (line_calls writer kind)
  due : 1 ≤ writer → LeavesDue kind (writer - 1) calls

module _ {T W S : Type 0} (means : Meaning T W S) (moment : Moment) (host : Host T W S) (writer place : ℕ) (place_is : place ≡ writer - 1) where
  comes_asking : (kind : LineKind) (calls : List Call) → moment.line.what ≡ kind → ComesNext means moment host
      → NamesWriter moment.scenario.writers moment.before writer → IsAskedBy kind writer calls → ComesAsking means moment place calls host
  comes_asking kind calls what next names asked =
      let least = names.least in
      let number : writer ≡ suc place = omega (arith, least, place_is) in
      record {
        next = next;
        wants = subst (λ (k : LineKind). AsksFor k place calls) (sym what)
            (subst (λ (n : ℕ). AsksFor kind n calls) (sym place_is)
            (asks_for kind writer calls least asked.calls_are asked.no_request asked.closes_none));
        due = subst (λ (k : LineKind). LeavesDue k place calls) (sym what)
            (subst (λ (n : ℕ). LeavesDue kind n calls) (sym place_is) (asked.due least));
        acts = ap (acts_of moment.scenario moment.before) what
            ∙ acts_asked kind writer calls moment.scenario moment.before least (asked.acts_are moment.scenario moment.before) (asked.calls_are writer)
            ∙ ap (λ (n : ℕ). asks n calls) (sym place_is);
        names = subst (λ (n : ℕ). NamesWriter moment.scenario.writers moment.before n) number names;
      }

  reach_of : (kind : LineKind) → moment.line.what ≡ kind → ComesNext means moment host
      → IsInReach moment.scenario.buffers moment.scenario.producers moment.scenario.writers moment.before kind
  reach_of kind what next =
      subst (λ (k : LineKind). IsInReach moment.scenario.buffers moment.scenario.producers moment.scenario.writers moment.before k) what next.reach

  pub comes_packet : (fields : List Shown) → moment.line.what ≡ line.Packet writer fields → ComesNext means moment host
      → ComesAsking means moment place (Begun true ∷ map node_call fields ++ Finished ∷ []) host
  unfolding line_calls closes
  comes_packet fields what next =
      comes_asking (line.Packet writer fields) (Begun true ∷ map node_call fields ++ Finished ∷ []) what next (reach_of (line.Packet writer fields) what next)
      (record {
        calls_are = λ number. refl;
        no_request = refl;
        closes_none = λ producer. refl;
        acts_are = λ scenario before. refl;
        due = λ least. due_packet writer (writer - 1) fields;
      })

  pub comes_begin : moment.line.what ≡ line.Begin writer → ComesNext means moment host → ComesAsking means moment place (Begun true ∷ []) host
  unfolding line_calls closes
  comes_begin what next =
      comes_asking (line.Begin writer) (Begun true ∷ []) what next (reach_of (line.Begin writer) what next)
      (record {
        calls_are = λ number. refl;
        no_request = refl;
        closes_none = λ producer. refl;
        acts_are = λ scenario before. refl;
        due = due_begin writer;
      })

  pub comes_fields : (fields : List Shown) → moment.line.what ≡ line.Add writer fields → ComesNext means moment host
      → ComesAsking means moment place (map node_call fields) host
  unfolding line_calls closes
  comes_fields fields what next =
      comes_asking (line.Add writer fields) (map node_call fields) what next (reach_of (line.Add writer fields) what next)
      (record {
        calls_are = λ number. refl;
        no_request = refl;
        closes_none = λ producer. refl;
        acts_are = λ scenario before. refl;
        due = λ least. due_fields writer (writer - 1) fields;
      })

  pub comes_nest : (field : ℕ) → moment.line.what ≡ line.Nest writer field → ComesNext means moment host
      → ComesAsking means moment place (Nested field ∷ []) host
  unfolding line_calls closes
  comes_nest field what next =
      comes_asking (line.Nest writer field) (Nested field ∷ []) what next (reach_of (line.Nest writer field) what next)
      (record {
        calls_are = λ number. refl;
        no_request = refl;
        closes_none = λ producer. refl;
        acts_are = λ scenario before. refl;
        due = λ least. due_nest writer (writer - 1) field;
      })

  pub comes_unnest : moment.line.what ≡ line.Unnest writer → ComesNext means moment host → ComesAsking means moment place (Ended ∷ []) host
  unfolding line_calls closes
  comes_unnest what next =
      comes_asking (line.Unnest writer) (Ended ∷ []) what next (reach_of (line.Unnest writer) what next)
      (record {
        calls_are = λ number. refl;
        no_request = refl;
        closes_none = λ producer. refl;
        acts_are = λ scenario before. refl;
        due = λ least. due_unnest writer (writer - 1);
      })

  pub comes_flush : moment.line.what ≡ line.Flush writer → ComesNext means moment host → ComesAsking means moment place (Flushed ∷ []) host
  unfolding line_calls closes
  comes_flush what next =
      comes_asking (line.Flush writer) (Flushed ∷ []) what next (reach_of (line.Flush writer) what next)
      (record {
        calls_are = λ number. refl;
        no_request = refl;
        closes_none = λ producer. refl;
        acts_are = λ scenario before. refl;
        due = λ least. due_flush writer (writer - 1);
      })

-- ---- lines of the service

collect_asks : (producer : ℕ) → AsksNothing (line.Collect producer)
unfolding line_calls
collect_asks producer = record { none = λ number. refl; no_request = refl; due = λ number due. refl }

scrape_asks : (producer : ℕ) → AsksNothing (line.Scrape producer)
unfolding line_calls
scrape_asks producer = record { none = λ number. refl; no_request = refl; due = λ number due. refl }

read_asks : (buffer limit : ℕ) → AsksNothing (line.Read buffer limit)
unfolding line_calls
read_asks buffer limit = record { none = λ number. refl; no_request = refl; due = λ number due. refl }

clone_asks : (buffer : ℕ) → AsksNothing (line.CloneBuffer buffer)
unfolding line_calls
clone_asks buffer = record { none = λ number. refl; no_request = refl; due = λ number due. refl }

raw_asks : (writer : ℕ) (chunk : AskedChunk) → AsksNothing (line.Raw writer chunk)
unfolding line_calls
raw_asks writer chunk = record { none = λ number. refl; no_request = refl; due = λ number due. refl }

module _ {T W S : Type 0} (means : Meaning T W S) (moment : Moment) (host : Host T W S) where
  comes_serving : (kind : LineKind) (acts : List Act) → moment.line.what ≡ kind → ComesNext means moment host → AsksNothing kind
      → acts_of moment.scenario moment.before kind ≡ acts → ((producer : ℕ) → closes producer kind ≡ false) → ComesServing means moment acts host
  comes_serving kind acts what next nothing acts_are none = record {
    next = next;
    wants = subst AsksNothing (sym what) nothing;
    acts_are = ap (acts_of moment.scenario moment.before) what ∙ acts_are;
    closes_none = λ producer. ap (closes producer) what ∙ none producer;
  }

  pub comes_collect : (producer : ℕ) → moment.line.what ≡ line.Collect producer → ComesNext means moment host
      → ComesServing means moment (Collect producer ∷ []) host × NamesProducer moment.scenario.producers moment.before producer
  unfolding closes
  comes_collect producer what next = (
    comes_serving (line.Collect producer) (Collect producer ∷ []) what next (collect_asks producer) refl (λ other. refl),
    subst (λ (k : LineKind). IsInReach moment.scenario.buffers moment.scenario.producers moment.scenario.writers moment.before k) what next.reach,
  )

  pub comes_scrape : (producer : ℕ) → moment.line.what ≡ line.Scrape producer → ComesNext means moment host
      → ComesServing means moment (Scrape producer ∷ []) host × NamesProducer moment.scenario.producers moment.before producer
  unfolding closes
  comes_scrape producer what next = (
    comes_serving (line.Scrape producer) (Scrape producer ∷ []) what next (scrape_asks producer) refl (λ other. refl),
    subst (λ (k : LineKind). IsInReach moment.scenario.buffers moment.scenario.producers moment.scenario.writers moment.before k) what next.reach,
  )

  pub comes_read : (buffer limit : ℕ) → moment.line.what ≡ line.Read buffer limit → ComesNext means moment host
      → ComesServing means moment (ReadAll buffer limit ∷ []) host
  unfolding closes
  comes_read buffer limit what next =
      comes_serving (line.Read buffer limit) (ReadAll buffer limit ∷ []) what next (read_asks buffer limit) refl (λ other. refl)

  -- a line that makes a clone has no acts
  pub comes_clone : (buffer : ℕ) → moment.line.what ≡ line.CloneBuffer buffer → ComesNext means moment host → ComesServing means moment [] host
  unfolding closes
  comes_clone buffer what next =
      comes_serving (line.CloneBuffer buffer) [] what next (clone_asks buffer) refl (λ other. refl)

  pub comes_raw : (place : ℕ) (chunk : AskedChunk) → moment.line.what ≡ line.Raw (suc place) chunk → ComesNext means moment host
      → ComesServing means moment (CommitRaw place chunk ∷ []) host
      × CommitsChunk moment.scenario.buffers moment.scenario.producers moment.scenario.writers moment.before (suc place) chunk
  unfolding closes
  comes_raw place chunk what next = (
    comes_serving (line.Raw (suc place) chunk) (CommitRaw place chunk ∷ []) what next (raw_asks (suc place) chunk) refl (λ other. refl),
    subst (λ (k : LineKind). IsInReach moment.scenario.buffers moment.scenario.producers moment.scenario.writers moment.before k) what next.reach,
  )
