use Rattle.lower_emission.proofs.Computed.{adds, decides, chooses, fills, computes, goes_round, selects, gets, picks, finds, copies, hands_over, counts, exits, sums, descends, skips, visits, reduces, crosses, mixes, handles, passes, calls, shares, parts, gathers, leaves, deals, marks, reaches, nests, divides, returns_early, catches, folds, mentioned}
use Rattle.lower_emission.proofs.rows.Goals as goal

pub returns : goal.returns
returns c = record {
  statements = (adds, decides, chooses, fills, computes, goes_round, selects, gets);
  values = (picks, finds, copies, hands_over);
  loops = (counts, exits, sums, descends, skips, visits, reduces, crosses, mixes);
  bodies = (handles, passes, calls);
  constructs = (shares, parts, gathers, leaves);
  threads = (deals, marks, reaches, nests, divides, returns_early, catches, folds, mentioned);
}
