use Rattle.std.proofs.Common.{vec_len, string_bytes, refl, ap, ◌∙◌, Some}
use Rattle.regex_shared.proofs.AutomataFindMatches.{answered}
use Rattle.regex_shared.proofs.AutomataFindMatches.{listed}
use Rattle.regex_shared.proofs.regex_search.RegexSearch.write_captures.Goals as goal

pub returns-in_ok-write_texts-in-Some : goal.returns-in_ok-write_texts-in-Some
returns-in_ok-write_texts-in-Some c =
    let it = c.args.self.now in
    let of = c.if-not-is_of.ensures in
    let found = c.in_ok-whole.ensures in
    let these = c.in_ok-write_texts-in-Some.ensures in
    let texts = rw (c.deref.ensures.len, found.width, of.groups refl, c.deref.ensures.value) at these.texts in
    listed c.write_texts.new.texts
    (ap Some texts
    ∙ answered (string_bytes it.source) it.searcher.program.hir c.args.regex.now c.args.line.now c.find.new.self.cells.items (vec_len it.cells) _
    it.read (of.source refl) c.requires (λ k. (c.type_inv.line k).fits) c.in_ok-whole.field-0 _ found.span found.cells (of.groups refl)
    c.in-Some.is)
    (rw (c.deref.ensures.len, found.width, of.groups refl) at these.count)
    these.slices

pub returns-in-None : goal.returns-in-None
returns-in-None c =
    let it = c.args.self.now in
    let of = c.if-not-is_of.ensures in
    let found = c.in_ok-whole.ensures in
    record {
      answer = answered (string_bytes it.source) it.searcher.program.hir c.args.regex.now c.args.line.now c.find.new.self.cells.items (vec_len it.cells) _
          it.read (of.source refl) c.requires (λ k. (c.type_inv.line k).fits) c.in_ok-whole.field-0 _ found.span found.cells (of.groups refl)
          c.in-None.is;
      all_groups = tt;
      slices = tt;
    }
