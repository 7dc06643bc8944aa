pub mod ScalarCalls
