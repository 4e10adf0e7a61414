use Rattle.std.proofs.Common.{◌≡◌, ◌∙◌, ◌+◌, ◌++◌, ℕ, List, [], ◌∷◌, subst, sym, refl, ap, arith}
use Rattle.chunk_plain.specs.declared.setup.Spot.{Spot}
use Rattle.chunk_plain.specs.Setup.{Setup, spot, id_at}
use Rattle.chunk_plain.specs.Views.{Noted, Partial, ServiceView, taken_of}
use Rattle.chunk_plain.specs.World.{status}
use Rattle.service_core.specs.Scraping.{PartLooked, IsntPart}
use Rattle.service_core.proofs.KeptLemmas.{read_count}
use Rattle.service_core.proofs.AgreeLemmas.{looks_on, writer_on, goes_on}
use Rattle.service_core.proofs.PartLemmas.{part_looked, no_part_seen}
use Rattle.service_core.proofs.ScrapeLemmas.{part_shown}
use Rattle.service_core.proofs.HeldLemmas.{has_ranges, part_is, isnt_part}
use Rattle.service_core.proofs.service.ServiceCore.scrape_chunk.Goals as goal
use Rattle.service_core.specs.Order.{IsFoundPart}
use Rattle.service_core.specs.Taking.{noted_more}

pub put_part-requires-clause-writer : goal.put_part-requires-clause-writer
put_part-requires-clause-writer g c =
    let on = looks_on g.W.Words.means c.args.table.now c.args.self.now c.look-seen.new.self c.look-seen.new.seat c.args.chunk c.look-seen.result.word.0 c.look-seen.result.header
    c.requires.writer.service c.look-seen.ensures.view c.look-seen.ensures.step in
    writer_on on c.requires.writer

pub put_part-requires-clause-part : goal.put_part-requires-clause-part
put_part-requires-clause-part g c =
    let setup = g.W.Words.means.setup c.args.table.now in
    let old = g.W.Words.means.service_view c.args.table.now c.args.self.now.seat in
    let new = g.W.Words.means.service_view c.look-seen.new.self c.look-seen.new.seat in
    let place = c.args.place in
    let position = c.index.result.now in
    let agrees = c.requires.writer.service.agrees in
    let count = read_count setup old c.args.self.now place agrees c.requires.writer.inside position c.index.ensures in
    let now : position ≡ (taken_of new place).count = count ∙ sym (ap (λ (v : ServiceView). (taken_of v place).count) c.look-seen.ensures.view.view) in
    let here = ap (λ (s : Spot). s.place) (c.spot-at.ensures.spot ∙ ap (λ (s : Setup). spot s c.args.chunk) agrees.layout) in
    let named = c.id_at-next.ensures ∙ ap (λ (s : Setup). id_at s place position) agrees.layout in
    let part = c.in-Some.ensures.some in
    let counted = part.count in
    let most = c.look-seen.ensures.count_fits in
    let least = part.some in
    record {
      some = omega (arith, least);
      count = omega (arith, counted, most);
      id = part.id_is ∙ named ∙ ap (id_at setup place) now ∙ ap (λ (s : Setup). id_at s place (taken_of new place).count) (sym c.look-seen.ensures.step.setup_stays);
      looked = subst (λ (n : ℕ). PartLooked new c.args.chunk place n c.in-Some.finished c.look-seen.result.header.flags) now
          (part_looked setup old new place c.args.chunk c.look-seen.result c.spot-at.result.place (place + 1) c.id_at-next.result position c.in-Some.finished c.look-seen.ensures.view here refl named (omega arith) part);
    }

pub returns-in-Some-clause-leaves : goal.returns-in-Some-clause-leaves
returns-in-Some-clause-leaves g c =
    let on = looks_on g.W.Words.means c.args.table.now c.args.self.now c.look-seen.new.self c.look-seen.new.seat c.args.chunk c.look-seen.result.word.0 c.look-seen.result.header
    c.requires.writer.service c.look-seen.ensures.view c.look-seen.ensures.step in
    goes_on on c.put_part.ensures.leaves.service

pub returns-in-Some-clause-part : goal.returns-in-Some-clause-part
returns-in-Some-clause-part g c _ =
    let setup = g.W.Words.means.setup c.args.table.now in
    let old = g.W.Words.means.service_view c.args.table.now c.args.self.now.seat in
    let mid = g.W.Words.means.service_view c.look-seen.new.self c.look-seen.new.seat in
    let new = g.W.Words.means.service_view c.put_part.new.table c.put_part.new.self.seat in
    let place = c.args.place in
    let agrees = c.requires.writer.service.agrees in
    let count = read_count setup old c.args.self.now place agrees c.requires.writer.inside c.index.result.now c.index.ensures in
    let here = ap (λ (s : Spot). s.place) (c.spot-at.ensures.spot ∙ ap (λ (s : Setup). spot s c.args.chunk) agrees.layout) in
    let named = c.id_at-next.ensures ∙ ap (λ (s : Setup). id_at s place c.index.result.now) agrees.layout in
    let now : c.index.result.now ≡ (taken_of mid place).count = count ∙ sym (ap (λ (v : ServiceView). (taken_of v place).count) c.look-seen.ensures.view.view) in
    let view = c.put_part.ensures.view ∙ ap (λ (n : ℕ). noted_more mid (Partial (place + 2) n c.in-Some.finished ∷ [])) (sym now) in
    let found = subst (λ (n : ℕ). IsFoundPart new (place + 2) n c.in-Some.finished) (sym now) c.put_part.ensures.part in
    let seen = c.look-seen.result in
    record {
      takes = part_shown setup old mid new place c.args.chunk seen c.spot-at.result.place (place + 1) c.id_at-next.result c.index.result.now c.in-Some.finished c.look-seen.ensures.view
          (g.met.W.Words.looks_agree c.look-seen.new.self c.look-seen.new.seat c.look-seen.ensures.step.seat_stays) here refl named (omega arith) count c.in-Some.ensures.some c.requires.chunk view found;
      told = λ world is.
          let ranges = has_ranges seen.header c.part_in.ensures.fits c.look-seen.ensures.count_fits c.look-seen.ensures.flags_fit in
          let view_is = g.met.W.Words.told_service_view c.args.table.now c.args.self.now.seat world is c.requires.writer.service.serves in
          let next : c.index.result.now ≡ (taken_of world.service place).count = count ∙ ap (λ (v : ServiceView). (taken_of v place).count) view_is in
          let held = part_is setup world place c.args.chunk c.spot-at.result.place (place + 1) c.id_at-next.result c.index.result.now c.in-Some.finished seen (g.met.W.Words.told_owned c.args.table.now world is)
          (c.look-seen.ensures.shown world is) here refl named (omega arith) c.in-Some.ensures.some next ranges in
          record {
            told_is = c.put_part.ensures.leaves.told _ (c.look-seen.ensures.told world is);
            events = ap (λ (v : ServiceView). v.events) view
                ∙ ap (λ (v : ServiceView). v.events ++ Partial (place + 2) c.index.result.now c.in-Some.finished ∷ []) c.look-seen.ensures.view.view
                ∙ ap (λ (l : List Noted). old.events ++ l) (sym held);
          };
    }

pub returns-in-None-clause-leaves : goal.returns-in-None-clause-leaves
returns-in-None-clause-leaves g c =
    looks_on g.W.Words.means c.args.table.now c.args.self.now c.look-seen.new.self c.look-seen.new.seat c.args.chunk c.look-seen.result.word.0 c.look-seen.result.header
    c.requires.writer.service c.look-seen.ensures.view c.look-seen.ensures.step

pub returns-in-None-clause-none : goal.returns-in-None-clause-none
returns-in-None-clause-none g c _ =
    let setup = g.W.Words.means.setup c.args.table.now in
    let old = g.W.Words.means.service_view c.args.table.now c.args.self.now.seat in
    let new = g.W.Words.means.service_view c.look-seen.new.self c.look-seen.new.seat in
    let place = c.args.place in
    let agrees = c.requires.writer.service.agrees in
    let count = read_count setup old c.args.self.now place agrees c.requires.writer.inside c.index.result.now c.index.ensures in
    let here = ap (λ (s : Spot). s.place) (c.spot-at.ensures.spot ∙ ap (λ (s : Setup). spot s c.args.chunk) agrees.layout) in
    let named = c.id_at-next.ensures ∙ ap (λ (s : Setup). id_at s place c.index.result.now) agrees.layout in
    let seen = c.look-seen.result in
    let most = c.look-seen.ensures.count_fits in
    record {
      sees = no_part_seen setup old new place c.args.chunk seen c.spot-at.result.place (place + 1) c.id_at-next.result c.look-seen.ensures.view here refl (named ∙ ap (id_at setup place) count) c.part_in.ensures.fits (omega (arith, most))
          c.in-None.ensures.none;
      told = λ world is.
          let ranges = has_ranges seen.header c.part_in.ensures.fits c.look-seen.ensures.count_fits c.look-seen.ensures.flags_fit in
          record {
            is = subst (λ (n : ℕ). IsntPart place n (status world c.args.chunk)) count
                (isnt_part setup world place c.args.chunk c.spot-at.result.place (place + 1) c.id_at-next.result c.index.result.now seen (c.look-seen.ensures.shown world is) here refl named ranges c.in-None.ensures.none);
            told_is = c.look-seen.ensures.told world is;
          };
    }
