use Rattle.std.proofs.Common.{◌≤◌, sym, subst}
use Rattle.aq_base.specs.declared.limits.TheConstants.{MOST_OBSERVATIONS}
use Rattle.aq_listed.specs.Marks.{is_marked}
use Rattle.aq_listed.proofs.Counted.{count-permuted}
use Rattle.aq_listed.proofs.marks.Marks.sorted.Goals as goal

pub invariant_of-result : goal.invariant_of-result
invariant_of-result c = record {
  sorted = c.sort_unstable.ensures.sorted;
  few = λ pollutant code test.
      subst (λ n. n ≤ MOST_OBSERVATIONS) (sym (count-permuted (is_marked pollutant code test) c.args.items.items c.sort_unstable.new.self.items c.sort_unstable.ensures.permutation))
      (c.requires pollutant code test);
}
