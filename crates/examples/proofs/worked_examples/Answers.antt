use Rattle.std.proofs.Common.{refl}
use Rattle.examples.proofs.Accepted.{two_hop_accepted, built_with_two, not_built_with_one, built_accepted}
use Rattle.examples.proofs.Refused.{two_hop_one_lane, no_entry, sent_back}
use Rattle.examples.proofs.OneLane.{one_lane_ring}
use Rattle.examples.proofs.Lines.{built_with_three, line_two_hop}
use Rattle.examples.proofs.Passages.{one_passage}
use Rattle.examples.proofs.worked_examples.Goals as goal

pub returns : goal.returns
returns c = record {
  one_lane_ring = one_lane_ring;
  built_with_two = built_with_two;
  built_accepted = built_accepted;
  not_built_with_one = not_built_with_one;
  two_hop_accepted = two_hop_accepted;
  two_hop_one_lane = two_hop_one_lane;
  no_entry = no_entry;
  sent_back = sent_back;
  numbers = (refl, refl, refl, refl, refl, refl);
  built_with_three = built_with_three;
  line_two_hop = line_two_hop;
  passage = one_passage;
}
