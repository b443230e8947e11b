use Rattle.std.proofs.Common.{◌≡◌, ◌<◌, ◌≤◌, List, [], ◌∷◌, ◌++◌, length, get_or, take, slice_get, Some, refl, sym, ◌∙◌, ap, subst, arith}
use Rattle.std.proofs.lemmas.List.{get_or_default}
use Rattle.std.proofs.lemmas.Option.{slice_get_read}
use Rattle.grok.specs.declared.expand.rows.Row.{Row}
use Rattle.grok.specs.declared.expand.uses.Uses.{Uses}
use Rattle.grok.specs.steps.Rows.{flat, AreBelow}
use Rattle.grok.specs.steps.CountedUses.{AreUsesOf, AreCountsOf, IsFreeAt, StopsAt}
use Rattle.grok.proofs.Keys.UsesOfKeys.{nothing_counted, is_free}
use Rattle.grok.proofs.Keys.RowsOfOnePartMore.{below-append, below_weaker}
use Rattle.grok.proofs.Keys.RowsAreFlat.{nothing, below-take, below_at}
use Rattle.grok.proofs.Keys.ClashIsCut.{IsCutting, row_height, row_is_low, cutting_starts, cutting_goes_on, stops_in_part, cut_at}
use Rattle.grok.proofs.expand.clash_search.cut.Goals as goal

pub returns-in_default-clause-free : goal.returns-in_default-clause-free
returns-in_default-clause-free c done are =
    let base = c.args.base.now in
    let so_far = c.pass.new.so_far in
    let counted = subst (AreCountsOf base done) (sym c.deref-2.ensures.value) (c.in_ok-counts.ensures.counts done are) in
    let start = subst (AreUsesOf base []) (sym c.none-so_far.ensures) (nothing_counted base) in
    let start_free = subst (λ (u : Uses). IsFreeAt u.times u.least) (sym c.none-so_far.ensures) tt in
    let passed = rw c.in_default.is at (c.pass.ensures.passes done counted [] start) in
    is_free base (flat done c.args.top.now.items) so_far (subst (λ rows. AreUsesOf base (flat done rows) so_far) c.deref.ensures.value passed) (c.pass.ensures.free start_free)

pub rows-init : goal.rows-init
rows-init c =
    let base = c.args.base.now in
    let top = c.args.top.now.items in
    let bound = length c.args.parts.now in
    let index = c.in-Some.index in
    let row = c.index-row.result.now in
    let so_far = c.pass.new.so_far in
    let low : index < length top = subst (λ (rows : List Row). index < length rows) c.deref.ensures.value c.in-Some.ensures.index in
    let start_free = subst (λ (u : Uses). IsFreeAt u.times u.least) (sym c.none-so_far.ensures) tt in
    record {
      top = subst (AreBelow bound) (sym c.truncate.ensures.items) (below-take bound index top c.requires.below);
      row = subst (λ r. AreBelow bound (r ∷ [])) (sym c.index-row.ensures) (below_at bound index top row low c.requires.below);
      free = c.in-Some.ensures.free start_free;
      cutting = λ done are.
          let counted = subst (AreCountsOf base done) (sym c.deref-2.ensures.value) (c.in_ok-counts.ensures.counts done are) in
          let start = subst (AreUsesOf base []) (sym c.none-so_far.ensures) (nothing_counted base) in
          let stop = subst (λ rows. StopsAt done base [] rows so_far index) c.deref.ensures.value (c.in-Some.ensures.passes done counted [] start) in
          subst (λ rows. IsCutting done base (flat done top) rows row so_far) (sym c.truncate.ensures.items) (cutting_starts done base top so_far index row low c.index-row.ensures stop);
    }

pub returns-in-Use-clause-cut : goal.returns-in-Use-clause-cut
returns-in-Use-clause-cut c done are =
    let base = c.args.base.now in
    let old = flat done c.args.top.now.items in
    let top = c.rows.top.items in
    let so_far = c.rows.so_far in
    let cutting = subst (λ r. IsCutting done base old top r so_far) c.in-Use.is (c.rows.invariant.cutting done are) in
    cut_at done base old top c.in-Use.key so_far c.and-after.result (record { base = c.args.base; number = c.unwrap_or.result; is_alias_first = c.eq.result }) cutting c.rows.invariant.free
    (c.and-after.ensures base (flat done top) (c.in-Use.key.now ∷ []) cutting.passed c.of_key.ensures) refl c.unwrap_or.ensures (sym c.eq.ensures)

pub returns-in-Use-clause-free : goal.returns-in-Use-clause-free
returns-in-Use-clause-free c done are =
    is_free c.args.base.now (flat done c.rows.top.items) c.rows.so_far (c.rows.invariant.cutting done are).passed c.rows.invariant.free

pub returns-in_default-pass-clause-cut : goal.returns-in_default-pass-clause-cut
returns-in_default-pass-clause-cut c done are =
    let base = c.args.base.now in
    let parts = c.args.parts.now in
    let part = c.in-Part.part in
    let rows = c.index-parts-part.result in
    let old = flat done c.args.top.now.items in
    let top = c.rows.top.items in
    let new = c.pass-in-Part.new.so_far in
    let low = (subst (λ r. AreBelow (length parts) (r ∷ [])) c.in-Part.is c.rows.invariant.row).0 in
    let is : slice_get parts part ≡ Some rows = slice_get_read parts (length parts) part rows refl low c.index-parts-part.is in
    let counted = subst (AreCountsOf base done) (sym c.deref-in-Part.ensures.value) (c.in_ok-counts.ensures.counts done are) in
    let cutting = subst (λ r. IsCutting done base old top r c.rows.so_far) c.in-Part.is (c.rows.invariant.cutting done are) in
    let passed = rw c.in_default-pass.is at (c.pass-in-Part.ensures.passes done counted (flat done top) cutting.passed) in
    absurd (stops_in_part done base old top part c.rows.so_far cutting rows.items (are.each part rows is) new
    (subst (λ rs. AreUsesOf base (flat done top ++ flat done rs) new) c.as_slice-rows.ensures.value passed) (c.pass-in-Part.ensures.free c.rows.invariant.free))

pub returns-in_default-pass-clause-free : goal.returns-in_default-pass-clause-free
returns-in_default-pass-clause-free c done are =
    let base = c.args.base.now in
    let parts = c.args.parts.now in
    let part = c.in-Part.part in
    let rows = c.index-parts-part.result in
    let old = flat done c.args.top.now.items in
    let top = c.rows.top.items in
    let new = c.pass-in-Part.new.so_far in
    let low = (subst (λ r. AreBelow (length parts) (r ∷ [])) c.in-Part.is c.rows.invariant.row).0 in
    let is : slice_get parts part ≡ Some rows = slice_get_read parts (length parts) part rows refl low c.index-parts-part.is in
    let counted = subst (AreCountsOf base done) (sym c.deref-in-Part.ensures.value) (c.in_ok-counts.ensures.counts done are) in
    let cutting = subst (λ r. IsCutting done base old top r c.rows.so_far) c.in-Part.is (c.rows.invariant.cutting done are) in
    let passed = rw c.in_default-pass.is at (c.pass-in-Part.ensures.passes done counted (flat done top) cutting.passed) in
    absurd (stops_in_part done base old top part c.rows.so_far cutting rows.items (are.each part rows is) new
    (subst (λ rs. AreUsesOf base (flat done top ++ flat done rs) new) c.as_slice-rows.ensures.value passed) (c.pass-in-Part.ensures.free c.rows.invariant.free))

pub rows-smaller : goal.rows-smaller
rows-smaller c =
    let parts = c.args.parts.now in
    let part = c.in-Part.part in
    let rows = c.index-parts-part.result in
    let index = c.in-Some-pass.index in
    let items = c.as_slice-rows.result.now in
    let low = (subst (λ r. AreBelow (length parts) (r ∷ [])) c.in-Part.is c.rows.invariant.row).0 in
    let is : slice_get parts part ≡ Some rows = slice_get_read parts (length parts) part rows refl low c.index-parts-part.is in
    let below = subst (AreBelow part) (sym c.as_slice-rows.ensures.value) (c.requires.falls part rows is) in
    let less = row_is_low part (get_or items index nothing) (below_at part index items nothing c.in-Some-pass.ensures.index below) in
    omega (arith, less, ap row_height c.in-Part.is)

pub rows-preserved : goal.rows-preserved
rows-preserved c =
    let base = c.args.base.now in
    let parts = c.args.parts.now in
    let part = c.in-Part.part in
    let rows = c.index-parts-part.result in
    let index = c.in-Some-pass.index in
    let items = c.as_slice-rows.result.now in
    let row = get_or items index nothing in
    let top = c.rows.top.items in
    let new = c.pass-in-Part.new.so_far in
    let low = (subst (λ r. AreBelow (length parts) (r ∷ [])) c.in-Part.is c.rows.invariant.row).0 in
    let is : slice_get parts part ≡ Some rows = slice_get_read parts (length parts) part rows refl low c.index-parts-part.is in
    let below = subst (AreBelow part) (sym c.as_slice-rows.ensures.value) (c.requires.falls part rows is) in
    let within = c.in-Some-pass.ensures.index in
    let extended : c.extend_from_slice.new.self.items ≡ top ++ take index items = c.in_ok-extend_from_slice-in-Part.ensures.items in
    let most : part ≤ length parts = omega (arith, low) in
    record {
      top = subst (AreBelow (length parts)) (sym extended) (below-append (length parts) top (take index items) c.rows.invariant.top (below_weaker part (length parts) (take index items) most (below-take part index items below)));
      row = below_weaker part (length parts) (row ∷ []) most (below_at part index items nothing within below);
      free = c.pass-in-Part.ensures.free c.rows.invariant.free;
      cutting = λ done are.
          let old = flat done c.args.top.now.items in
          let counted = subst (AreCountsOf base done) (sym c.deref-in-Part.ensures.value) (c.in_ok-counts.ensures.counts done are) in
          let cutting = subst (λ r. IsCutting done base old top r c.rows.so_far) c.in-Part.is (c.rows.invariant.cutting done are) in
          let stop = c.in-Some-pass.ensures.passes done counted (flat done top) cutting.passed in
          let each = are.each part rows is ∙ ap (flat done) (sym c.as_slice-rows.ensures.value) in
          subst (λ t. IsCutting done base old t row new) (sym extended)
          (cutting_goes_on done base old top part c.rows.so_far cutting items each new index row within (get_or_default items index nothing row within) stop);
    }
