pub mod WayTops
