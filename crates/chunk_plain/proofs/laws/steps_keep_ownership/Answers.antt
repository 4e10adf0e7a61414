use Rattle.chunk_plain.proofs.WriterSteps as writer_steps
use Rattle.chunk_plain.proofs.EntrySteps as entry
use Rattle.chunk_plain.proofs.ServiceSteps as service_steps
use Rattle.chunk_plain.proofs.Owned.{serviced_owned, looks_owned}
use Rattle.chunk_plain.proofs.laws.steps_keep_ownership.Goals as goal

pub returns : goal.returns
returns c = λ world place chunk owned inside_w inside_c. (
  record {
    wins = λ found free. writer_steps.claims_owned world place chunk found owned inside_w inside_c free;
    misses = λ found taken. writer_steps.misses_owned world place chunk found owned inside_w taken;
    stamps_it = λ mine none_stored. writer_steps.stamps_owned world place chunk owned inside_w inside_c mine none_stored;
    begins_it = λ words stored. writer_steps.begins_owned world place chunk words owned inside_w inside_c stored;
    heads_it = λ position draft head ends at follows good. entry.heads_owned world place chunk position draft head ends owned inside_w inside_c at follows good;
    publishes_it = λ position index word draft at inside same. entry.publishes_owned world place chunk position index word draft owned inside_w inside_c at inside same;
    completes_it = λ position draft content at position_is sequence_is head_is inside same. entry.completes_owned world place chunk position draft content owned inside_w inside_c at position_is sequence_is head_is inside same;
    notes_it = λ calls letters. writer_steps.notes_owned world place calls letters owned inside_w;
  },
  record {
    looks_it = λ word header found finds. looks_owned world chunk word header found owned finds;
    takes_it = λ content ready. service_steps.takes_owned world place chunk content owned inside_w inside_c ready;
    learns_it = λ content room at. service_steps.learns_owned world place chunk content owned inside_w room at;
    releases_it = λ other position content reading. service_steps.lets_go_owned world chunk other position content owned inside_c reading;
    notes_it = λ service looks taken reading. serviced_owned world service owned looks taken reading;
  },
)
