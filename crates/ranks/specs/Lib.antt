pub mod Named
pub mod FirstLaws
pub mod Rank
pub mod RankLaws
pub mod Merge
pub mod Search
pub mod Ranked
