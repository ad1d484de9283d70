-- What each function of the robots' library gives (`Library`), and what its inner functions give (`Inner`).
pub mod Library
pub mod Inner
