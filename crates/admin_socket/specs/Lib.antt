pub mod SocketCalls
pub mod Listening
