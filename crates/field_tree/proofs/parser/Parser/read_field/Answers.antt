use Rattle.std.proofs.Common.{◌≡◌, [], refl}
use Rattle.field_tree.specs.declared.mode.Mode.TheVariants.{Start, Field, Digits}
use Rattle.field_tree.specs.Machine.{with_text, IsValid}
use Rattle.field_tree.specs.Scanning.{reading_with, RunsOver}
use Rattle.field_tree.specs.Views.{reading, nodes_read}
use Rattle.field_tree.proofs.EndLemmas.{valid_over, if_ok_more}
use Rattle.field_tree.proofs.ScanLemmas.{over_both}
use Rattle.field_tree.proofs.parser.Parser.read_field.Goals as goal

pub returns-in-Field-clause-over : goal.returns-in-Field-clause-over
returns-in-Field-clause-over c =
    let old = c.args.self.now in
    let scanned = c.scan-scanned.result in
    let start = reading_with (nodes_read old) old.depth [] (Start c.args.opened) in
    let via = reading old (Field c.in-Field.field) in
    let over = c.scan-scanned.ensures (nodes_read old) old.depth in
    let valid : IsValid scanned.mode scanned.text.now = valid_over start _ c.args.bytes.now scanned.behind.now refl over in
    let empty : scanned.text.now ≡ [] = (rw c.in-Field.is at valid).1 in
    let first : RunsOver (reading old (Start c.args.opened)) c.args.bytes.now via scanned.behind.now =
    rw c.requires.between (rw (empty, c.in-Field.is) at over) in
    if_ok_more c.read_begin.result (λ to. RunsOver via scanned.behind.now (reading c.read_begin.new.self to.0) to.1.now)
    (λ to. RunsOver (reading old (Start c.args.opened)) c.args.bytes.now (reading c.read_begin.new.self to.0) to.1.now)
    (λ to more. over_both _ via _ _ scanned.behind.now _ first more) c.read_begin.ensures.over

pub returns-in-Digits-clause-over : goal.returns-in-Digits-clause-over
returns-in-Digits-clause-over c =
    let old = c.args.self.now in
    let scanned = c.scan-scanned.result in
    let start = reading_with (nodes_read old) old.depth [] (Start c.args.opened) in
    let via = reading old (Digits c.in-Digits.field c.in-Digits.value) in
    let over = c.scan-scanned.ensures (nodes_read old) old.depth in
    let valid : IsValid scanned.mode scanned.text.now = valid_over start _ c.args.bytes.now scanned.behind.now refl over in
    let empty : scanned.text.now ≡ [] = (rw c.in-Digits.is at valid).3 in
    let first : RunsOver (reading old (Start c.args.opened)) c.args.bytes.now via scanned.behind.now =
    rw c.requires.between (rw (empty, c.in-Digits.is) at over) in
    if_ok_more c.read_number.result (λ to. RunsOver via scanned.behind.now (reading c.read_number.new.self to.0) to.1.now)
    (λ to. RunsOver (reading old (Start c.args.opened)) c.args.bytes.now (reading c.read_number.new.self to.0) to.1.now)
    (λ to more. over_both _ via _ _ scanned.behind.now _ first more) c.read_number.ensures.over

pub returns-in-Quoted-clause-over : goal.returns-in-Quoted-clause-over
returns-in-Quoted-clause-over c =
    let old = c.args.self.now in
    let scanned = c.scan-scanned.result in
    let via = with_text scanned.text.now (reading old scanned.mode) in
    let first : RunsOver (reading old (Start c.args.opened)) c.args.bytes.now via scanned.behind.now =
    rw c.requires.between (c.scan-scanned.ensures (nodes_read old) old.depth) in
    if_ok_more c.read_text.result (λ to. RunsOver via scanned.behind.now (reading c.read_text.new.self to.0) to.1.now)
    (λ to. RunsOver (reading old (Start c.args.opened)) c.args.bytes.now (reading c.read_text.new.self to.0) to.1.now)
    (λ to more. over_both _ via _ _ scanned.behind.now _ first more) c.read_text.ensures.over

pub returns-in-Times-clause-over : goal.returns-in-Times-clause-over
returns-in-Times-clause-over c =
    let old = c.args.self.now in
    let scanned = c.scan-scanned.result in
    let via = with_text scanned.text.now (reading old scanned.mode) in
    let first : RunsOver (reading old (Start c.args.opened)) c.args.bytes.now via scanned.behind.now =
    rw c.requires.between (c.scan-scanned.ensures (nodes_read old) old.depth) in
    if_ok_more c.read_text-in-Times.result (λ to. RunsOver via scanned.behind.now (reading c.read_text-in-Times.new.self to.0) to.1.now)
    (λ to. RunsOver (reading old (Start c.args.opened)) c.args.bytes.now (reading c.read_text-in-Times.new.self to.0) to.1.now)
    (λ to more. over_both _ via _ _ scanned.behind.now _ first more) c.read_text-in-Times.ensures.over

pub returns-in_default : goal.returns-in_default
returns-in_default c =
    let old = c.args.self.now in
    let scanned = c.scan-scanned.result in
    let via = with_text scanned.text.now (reading old scanned.mode) in
    let first : RunsOver (reading old (Start c.args.opened)) c.args.bytes.now via scanned.behind.now =
    rw c.requires.between (c.scan-scanned.ensures (nodes_read old) old.depth) in
    record {
      over =
          if_ok_more c.keep.result (λ to. RunsOver via scanned.behind.now (reading c.keep.new.self to.0) to.1.now)
          (λ to. RunsOver (reading old (Start c.args.opened)) c.args.bytes.now (reading c.keep.new.self to.0) to.1.now)
          (λ to more. over_both _ via _ _ scanned.behind.now _ first more) c.keep.ensures.over;
      kept = c.keep.ensures.kept;
    }
