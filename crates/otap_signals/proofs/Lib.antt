pub mod EachSignal
