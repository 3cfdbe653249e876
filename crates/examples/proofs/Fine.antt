-- What tests of written tables tell of the pairs of a plan whose levels are all 0. Assumes nothing.
use Rattle.std.proofs.Common.{◌≡◌, ℕ, suc, ◌*◌, ◌<◌, Bool, true, not, ◌&&◌, ◌||◌, List, length, Some, sym, refl, ap, ◌∙◌, subst, arith, ltb-true, eqb-true, slice_index, eq-eqb}
use Rattle.std.specs.Prelude.{nat_lt, ◌==◌}
use Rattle.std.proofs.lemmas.Bool.{and_parts}
use Rattle.rack.specs.declared.cable.Cable.{Cable}
use Rattle.rack.specs.declared.rack.Rack.{Rack}
use Rattle.rack.specs.Network.{channels, tail_end, head_end}
use Rattle.rack.specs.Racks.{nodes_of, cables_of, channel_count, Host, Leaving}
use Rattle.rack.proofs.Facts.{host_below}
use Rattle.routing.specs.Paths.{Routing, Hop, hop, PairOf, OnPath, Delivered}
use Rattle.routing.proofs.Hops.{from_first}
use Rattle.checking.specs.Plans.{level_at, virtual, IsFollowedBy, FinePair, AllFine}
use Rattle.examples.proofs.Nets.{Net, IsNet, ahead, hop_same}
use Rattle.examples.proofs.Walks.{all_below, all_pairs, from_below, from_pairs, implied, hops, ends, listed, each, links, from_each, from_links, lastly, from_lastly}

-- channel 2u leaves node u
abbrev pub leaves_by_2 : List Cable → ℕ → Bool
leaves_by_2 cs u = nat_lt (2 * u) (channels cs) && (tail_end cs (2 * u)).node.0 == u

-- the first n nodes are the hosts, and channel 2u leaves host u
abbrev pub hosts_first : List ℕ → List Cable → ℕ → Bool
hosts_first ns cs n =
    all_below (length ns) (λ u. not (slice_index ns u == 1) || nat_lt u n)
    && all_below n (leaves_by_2 cs)

-- the path of the pair ends within n hops at its receiver, on lanes below the count
abbrev pub into : List Cable → ℕ → Hop → Bool
into cs v h = nat_lt h.channel (channels cs) && (head_end cs h.channel).node.0 == v

abbrev pub path_in : Net → ℕ → ℕ → ℕ → List Hop
path_in m n u v = hops m v n (Some (hop (2 * u) 0))

abbrev pub fine : List Cable → Net → ℕ → ℕ → ℕ → ℕ → Bool
fine cs m n lanes u v =
    ends m v n (Some (hop (2 * u) 0)) && (lastly (into cs v) (path_in m n u v) && each (λ h. nat_lt h.lane lanes) (path_in m n u v))

-- from each hop of the path of the pair to the next the test passes
abbrev pub linked : Net → ℕ → (Hop → Hop → Bool) → ℕ → ℕ → Bool
linked m n p u v = ends m v n (Some (hop (2 * u) 0)) && links p (path_in m n u v)

-- a rack whose tables are written out
pub record Laid (r : Rack) : Type 0 where
  pub nodes : List ℕ
  pub cables : List Cable
  pub hosts : ℕ
  pub same_nodes : nodes_of r ≡ nodes
  pub same_cables : cables_of r ≡ cables
  pub first : hosts_first nodes cables hosts ≡ true

module _ (g : Routing) (l : Laid g.rack) where
  pub host_low : (u : ℕ) → Host g.rack u → u < l.hosts
  host_low u host =
      let at : slice_index l.nodes u ≡ 1 = ap (λ xs. slice_index xs u) (sym l.same_nodes) ∙ host in
      let low : u < length l.nodes = subst (λ xs. u < length xs) l.same_nodes (host_below g.rack u host) in
      let both = and_parts (all_below (length l.nodes) (λ u. not (slice_index l.nodes u == 1) || nat_lt u l.hosts)) _ l.first in
      ltb-true u l.hosts (implied _ _ (from_below (length l.nodes) (λ u. not (slice_index l.nodes u == 1) || nat_lt u l.hosts) both.0 u low) (eq-eqb (slice_index l.nodes u) 1 at))

  pub out : (u : ℕ) → Host g.rack u → Leaving g.rack u (2 * u)
  out u host =
      let both = and_parts (all_below (length l.nodes) (λ u. not (slice_index l.nodes u == 1) || nat_lt u l.hosts)) _ l.first in
      let here = and_parts (nat_lt (2 * u) (channels l.cables)) ((tail_end l.cables (2 * u)).node.0 == u) (from_below l.hosts (leaves_by_2 l.cables) both.1 u (host_low u host)) in (
        ltb-true (2 * u) (channel_count g.rack) (ap (λ xs. nat_lt (2 * u) (channels xs)) l.same_cables ∙ here.0),
        ap (λ xs. (tail_end xs (2 * u)).node.0) l.same_cables ∙ eqb-true _ u here.1,
      )

  module _ (m : Net) (is : IsNet g 0 m) where
    pub to_path : (u v i : ℕ) (h : Hop) → Host g.rack u → OnPath g u v 0 i h → ahead m v i (Some (hop (2 * u) 0)) ≡ Some h
    to_path u v i h host on = sym (hop_same g 0 m is (2 * u) v i) ∙ from_first g u v 0 (2 * u) i h host (out u host) on

    pub on_path : (u v i : ℕ) (h : Hop) → Host g.rack u → ahead m v i (Some (hop (2 * u) 0)) ≡ Some h → OnPath g u v 0 i h
    on_path u v i h host e = (2 * u, out u host, hop_same g 0 m is (2 * u) v i ∙ e)

    module _ (levels : List ℕ) (flat : (u v : ℕ) → PairOf g.rack u v → level_at g.rack levels u v ≡ 0) where
      fine_pair : (n lanes u v : ℕ) → PairOf g.rack u v → fine l.cables m n lanes u v ≡ true → FinePair g levels lanes u v
      fine_pair n lanes u v pair t =
          let level : level_at g.rack levels u v ≡ 0 = flat u v pair in
          let both = and_parts (ends m v n (Some (hop (2 * u) 0))) _ t in
          let rest = and_parts (lastly (into l.cables v) (path_in m n u v)) _ both.1 in
          let end = from_lastly (into l.cables v) (path_in m n u v) rest.0 in
          let into_v = and_parts (nat_lt end.1.channel (channels l.cables)) ((head_end l.cables end.1.channel).node.0 == v) end.3 in
          let all = listed m v n (Some (hop (2 * u) 0)) both.0 in
          record {
            level = omega arith;
            arrives =
                subst (Delivered g u v) (sym level) (
                  end.0,
                  (
                    end.1,
                    on_path u v end.0 end.1 pair.0 (all end.0 ∙ end.2),
                    ltb-true _ (channel_count g.rack) (ap (λ xs. nat_lt end.1.channel (channels xs)) l.same_cables ∙ into_v.0),
                    ap (λ xs. (head_end xs end.1.channel).node.0) l.same_cables ∙ eqb-true _ v into_v.1,
                  ),
                );
            low = λ i h on.
                let on0 : OnPath g u v 0 i h = subst (λ s. OnPath g u v s i h) level on in
                ltb-true h.lane lanes (from_each (λ h. nat_lt h.lane lanes) (path_in m n u v) rest.1 i h (sym (all i) ∙ to_path u v i h pair.0 on0));
          }

      pub fine_where :
          (n lanes : ℕ) (p : ℕ → ℕ → Bool) → all_pairs l.hosts (λ u v. not (p u v) || fine l.cables m n lanes u v) ≡ true →
          (u v : ℕ) → PairOf g.rack u v → p u v ≡ true → FinePair g levels lanes u v
      fine_where n lanes p t u v pair is_so =
          fine_pair n lanes u v pair
          (implied (p u v) _ (from_pairs l.hosts (λ u v. not (p u v) || fine l.cables m n lanes u v) t u v (host_low u pair.0) (host_low v pair.1) pair.2) is_so)

      pub all_fine : (n lanes : ℕ) → all_pairs l.hosts (fine l.cables m n lanes) ≡ true → AllFine g levels lanes
      all_fine n lanes t u v pair = fine_pair n lanes u v pair (from_pairs l.hosts (fine l.cables m n lanes) t u v (host_low u pair.0) (host_low v pair.1) pair.2)

      -- what holds of every hop and the next holds of what follows
      pub follow_linked : (n : ℕ) (p : ℕ → ℕ → Bool) → all_pairs l.hosts (linked m n (λ h o. p (virtual h) (virtual o))) ≡ true → (x y : ℕ) → IsFollowedBy g levels x y → p x y ≡ true
      follow_linked n p t x y f =
          let u = f.sender in
          let v = f.receiver in
          let i = f.place in
          let h = f.one in
          let o = f.other in
          let level : level_at g.rack levels u v ≡ 0 = flat u v f.pair in
          let here = from_pairs l.hosts (linked m n (λ h o. p (virtual h) (virtual o))) t u v (host_low u f.pair.0) (host_low v f.pair.1) f.pair.2 in
          let both = and_parts (ends m v n (Some (hop (2 * u) 0))) (links (λ h o. p (virtual h) (virtual o)) (path_in m n u v)) here in
          let all = listed m v n (Some (hop (2 * u) 0)) both.0 in
          let one : OnPath g u v 0 i h = subst (λ s. OnPath g u v s i h) level f.uses in
          let other : OnPath g u v 0 (suc i) o = subst (λ s. OnPath g u v s (suc i) o) level f.then in
          ap (λ z. p z y) f.from ∙ ap (p (virtual h)) f.to
          ∙ from_links (λ h o. p (virtual h) (virtual o)) (path_in m n u v) both.1 i h o (sym (all i) ∙ to_path u v i h f.pair.0 one) (sym (all (suc i)) ∙ to_path u v (suc i) o f.pair.0 other)

      -- a hop of a path and the next follow one another
      pub followed_by : (u v i : ℕ) (h o : Hop) → PairOf g.rack u v → ahead m v i (Some (hop (2 * u) 0)) ≡ Some h → ahead m v (suc i) (Some (hop (2 * u) 0)) ≡ Some o → IsFollowedBy g levels (virtual h) (virtual o)
      followed_by u v i h o pair a b =
          let level : level_at g.rack levels u v ≡ 0 = flat u v pair in
          record {
            sender = u;
            receiver = v;
            place = i;
            one = h;
            other = o;
            pair = pair;
            uses = subst (λ s. OnPath g u v s i h) (sym level) (on_path u v i h pair.0 a);
            then = subst (λ s. OnPath g u v s (suc i) o) (sym level) (on_path u v (suc i) o pair.0 b);
            from = refl;
            to = refl;
          }
