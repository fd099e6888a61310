-- Lemmas of the code: the calls put together, and a write read back.
mod Calls
mod RoundTrip
