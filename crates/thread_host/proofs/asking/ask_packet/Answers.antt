-- A packet's begin, its fields and its end come one behind another.
use Rattle.std.proofs.Common.{true, List, [], ◌∷◌, ◌++◌, map}
use Rattle.trace_model.specs.Calls.{Call, Begun, Finished}
use Rattle.scenario_text.specs.Accepted.{node_call}
use Rattle.thread_host.proofs.Going.{asked_both, fields_next}
use Rattle.thread_host.proofs.Helped.{helps_both}
use Rattle.thread_host.proofs.asking.ask_packet.Goals as goal

pub ask_fields-requires : goal.ask_fields-requires
ask_fields-requires g c =
    let fields : List Call = map node_call c.args.fields.now in
    let asked : List Call = c.requires.going.1 in
    let coming : List Call = c.requires.going.2 in
    record {
      going = (
        c.requires.going.0,
        asked ++ Begun true ∷ [],
        Finished ∷ coming,
        fields_next g.H.Helper.helps g.H.Helper.of_table c.args.table.now fields c.ask.new.help c.ask.new.writer
            c.requires.going.0 (asked ++ Begun true ∷ []) coming
            (c.ask.ensures.asked c.requires.going.0 asked ((fields ++ Finished ∷ []) ++ coming) c.requires.going.3),
      );
    }

pub ask-requires-2-clause-going : goal.ask-requires-2-clause-going
ask-requires-2-clause-going g c =
    let fields : List Call = map node_call c.args.fields.now in
    let asked : List Call = c.requires.going.1 in
    let coming : List Call = c.requires.going.2 in (
      c.requires.going.0,
      (asked ++ Begun true ∷ []) ++ fields,
      coming,
      c.ask_fields.ensures.asked c.requires.going.0 (asked ++ Begun true ∷ []) (Finished ∷ coming)
          (fields_next g.H.Helper.helps g.H.Helper.of_table c.args.table.now fields c.ask.new.help c.ask.new.writer
          c.requires.going.0 (asked ++ Begun true ∷ []) coming
          (c.ask.ensures.asked c.requires.going.0 asked ((fields ++ Finished ∷ []) ++ coming) c.requires.going.3)),
    )

pub returns : goal.returns
returns g c =
    let fields : List Call = map node_call c.args.fields.now in
    record {
      asked = asked_both g.H.Helper.helps g.H.Helper.of_table c.args.table.now (Begun true ∷ []) (fields ++ Finished ∷ [])
          c.args.help.now c.ask.new.help c.ask-2.new.help c.args.writer.now c.ask.new.writer c.ask-2.new.writer c.ask.ensures.asked
          (asked_both g.H.Helper.helps g.H.Helper.of_table c.args.table.now fields (Finished ∷ [])
          c.ask.new.help c.ask_fields.new.help c.ask-2.new.help c.ask.new.writer c.ask_fields.new.writer c.ask-2.new.writer
          c.ask_fields.ensures.asked c.ask-2.ensures.asked);
      helped = helps_both g.H.Helper.helps c.args.help.now c.ask.new.help c.ask-2.new.help c.args.writer.now c.ask.new.writer c.ask-2.new.writer
          c.ask.ensures.helped
          (helps_both g.H.Helper.helps c.ask.new.help c.ask_fields.new.help c.ask-2.new.help c.ask.new.writer c.ask_fields.new.writer c.ask-2.new.writer
          c.ask_fields.ensures.helped c.ask-2.ensures.helped);
    }
