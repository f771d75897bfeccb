-- Document 01, module 8: what a surface makes of a ray.
pub mod Fresnel
