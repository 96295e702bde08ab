-- Looks of one depth at nodes and those above them.
use Rattle.std.proofs.Common.{ℕ, zero, suc, ◌<◌, List, length, get_or}
use Rattle.dwz_nodes.specs.Graph.{Node}
use Rattle.dwz_nodes.specs.Looks.{LookEqual}
use Rattle.dwz_nodes.proofs.Looks.{look-same, look-trans}
use Rattle.dwz_nodes_chains.specs.Links.{climb}

-- where each node and the one above it look equal, each node and the peak above it do
pub look_climbs : (g : List Node) (above : List ℕ) (k : ℕ) → ((x : ℕ) → x < length g → get_or above x 0 < length g) → ((x : ℕ) → x < length g → LookEqual g k x (get_or above x 0))
    → (n x : ℕ) → x < length g → LookEqual g k x (climb above n x)
look_climbs g above k inside equal zero x l = look-same g k x
look_climbs g above k inside equal (suc n) x l =
    look-trans g k x (get_or above x 0) (climb above n (get_or above x 0)) (equal x l) (look_climbs g above k inside equal n (get_or above x 0) (inside x l))
