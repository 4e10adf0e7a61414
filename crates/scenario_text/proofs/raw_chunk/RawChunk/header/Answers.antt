use Rattle.std.proofs.Common.{rules, ◌≡◌, ◌∙◌, Some, length, sym, ap}
use Rattle.scenario_text.specs.declared.form.Form.TheVariants.{Raw}
use Rattle.scenario_text.specs.Forms.{form_of}
use Rattle.scenario_text.specs.RawForms.{payload_part}
use Rattle.scenario_text.specs.RawChunks.{chunk_by, AskedChunk}
use Rattle.scenario_text.proofs.RawLemmas.{chunk_is, payload_is}
use Rattle.scenario_text.proofs.raw_chunk.RawChunk.header.Goals as goal
use Rattle.scenario_text.proofs.raw_chunk.RawChunk.header.Goals.{After-header_of}

formed : (c : After-header_of) → form_of c.self.inside.text.now ≡ Some (Raw c.in-Some-Raw.raw)
formed c = search rules

-- the chunk that is asked for
is : (c : After-header_of) → chunk_by c.in-Some-Raw.raw (payload_part c.self.inside.text.now) ≡ c.args.self.now
is c = sym (chunk_is c.self.inside.text.now c.in-Some-Raw.raw (formed c)) ∙ c.self.view_is

pub returns-clause-chunk_id : goal.returns-clause-chunk_id
unfolding chunk_by
returns-clause-chunk_id c = c.header_of.ensures.chunk_id ∙ ap (λ (chunk : AskedChunk). chunk.chunk_id) (is c)

pub returns-clause-count : goal.returns-clause-count
unfolding chunk_by
returns-clause-count c = c.header_of.ensures.count ∙ ap (λ (chunk : AskedChunk). chunk.count) (is c)

pub returns-clause-flags : goal.returns-clause-flags
unfolding chunk_by
returns-clause-flags c = c.header_of.ensures.flags ∙ ap (λ (chunk : AskedChunk). chunk.flags) (is c)

pub returns-clause-buffer : goal.returns-clause-buffer
unfolding chunk_by
returns-clause-buffer c = c.header_of.ensures.buffer ∙ ap (λ (chunk : AskedChunk). chunk.buffer) (is c)

pub returns-clause-len : goal.returns-clause-len
unfolding chunk_by
returns-clause-len c =
    c.header_of.ensures.len ∙ sym (payload_is c.self.inside.text.now c.in-Some-Raw.raw (formed c))
    ∙ ap (λ (chunk : AskedChunk). length chunk.payload) (is c)

pub returns-clause-patch : goal.returns-clause-patch
unfolding chunk_by
returns-clause-patch c = c.header_of.ensures.patch ∙ ap (λ (chunk : AskedChunk). chunk.patch) (is c)
