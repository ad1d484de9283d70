-- What is promised of a matrix with entries missing (`Incomplete`), and where such a matrix is looser: two computed examples (`Looser`).
pub mod Incomplete
pub mod Looser
