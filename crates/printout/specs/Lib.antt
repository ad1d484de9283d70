-- What `play` prints (`Text`); `Inner` is cited by private functions only.
pub mod Text
pub mod Inner
