-- The search count of the definition is the number that the relation gives, no other is, and it is at most Z × C × (C + 1).
-- Put together from the laws of rounds and of their size.
use Rattle.searchcount.specs.Rounds.{CountsRight}
use Rattle.searchcount.proofs.RoundsMet.{searched_counted}
use Rattle.searchcount.proofs.CountedOnce.{counted_once}
use Rattle.searchcount.proofs.Most.{searched_most}

pub search_count : CountsRight
search_count t p laid = record {
  counted = searched_counted t p laid;
  only = λ n c. counted_once c (searched_counted t p laid);
  most = searched_most t p laid;
}
